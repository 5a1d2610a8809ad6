-- The steps so far passed, and `bytes` counts theirs.
use mathlib.Core.Path.{◌≡◌}
use Prim.Native.Nat.{◌/◌}
use native.Mathlib.Omega.{arith}
use lib.ListN.{length}
use Rattle.std.proofs.lemmas.Result.{err_from_is_err_and}
use borrow.Author.Rules.{rules}
use Rattle.wire.proofs.Refusing.{mapped_ok, mapped_err}
use Rattle.forms.proofs.Shapes.{size_small}
use Rattle.writing.proofs.Lists.{passed_next, passed_refused, passed_cut, passed_all}
use Rattle.writing.proofs.tested.Goals as goal

pub returns-in_err-map_err : goal.returns-in_err-map_err
returns-in_err-map_err c =
    let p = err_from_is_err_and c.from_residual.result c.from_residual.ensures.1 in
    let r = mapped_err _ _ _ _ c.in_err-map_err.was c.map_err.ensures.cases in
    let told : c.in_err-map_err.field-0.0 ≡ record { place = c.loop-q.q-counter; why = r.0 } = search (rules, r.1.1) in
    rw (p.1, p.2, told) (passed_refused c.loop-q.invariant (omega arith) _ (rw r.1.0 at (c.passed-step.ensures _ _ c.new-l.ensures)))

pub overflow_add-bytes : goal.overflow_add-bytes
overflow_add-bytes c =
    let k = c.in_ok-map_err.field-0 in
    omega (arith, c.loop-q.invariant.small, size_small k.number k.known)

pub loop-q-preserved : goal.loop-q-preserved
loop-q-preserved c =
    let r = mapped_ok _ _ _ _ c.in_ok-map_err.was c.map_err.ensures.cases in
    let h = rw r at (c.passed-step.ensures _ _ c.new-l.ensures) in
    passed_next c.loop-q.invariant (omega arith) c.in_ok-map_err.field-0 h.0 h.1 _ c.size.ensures

pub returns-then-i-steps : goal.returns-then-i-steps
returns-then-i-steps c =
    let count : length c.args.steps.now / 4 ≡ c.loop-q.q-counter = omega arith in
    let cut = rw count at c.cut_refusal.ensures in
    rw (c.at.ensures, count) (passed_cut c.loop-q.invariant _ cut (omega arith) (omega arith))

pub returns : goal.returns
returns c =
    let count : length c.args.steps.now / 4 ≡ c.loop-q.q-counter = omega arith in
    rw count (passed_all c.loop-q.invariant (omega arith) _ c.min.ensures)
