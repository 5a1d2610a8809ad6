-- The steps before the offset passed.
use mathlib.Core.Path.{◌≡◌}
use native.Mathlib.Omega.{arith}
use borrow.Author.Rules.{rules}
use Rattle.std.proofs.lemmas.Result.{err_from_is_err_and}
use Rattle.wire.proofs.Refusing.{mapped_ok, mapped_err}
use Rattle.listing.proofs.Lists.{passed_next, passed_refused, passed_all, next_known, next_fits}
use Rattle.listing.proofs.tested.Goals as goal

pub returns-in_err-map_err-clause-counts : goal.returns-in_err-map_err-clause-counts
returns-in_err-map_err-clause-counts c =
    let p = err_from_is_err_and c.from_residual.result c.from_residual.ensures.1 in
    let r = mapped_err _ _ _ _ c.in_err-map_err.was c.map_err.ensures.cases in
    let told : c.in_err-map_err.field-0.0 ≡ record { place = c.loop-at.at; why = r.0 } = search (rules, r.1.1) in
    rw (p.1, p.2, told) (passed_refused c.loop-at.invariant c.loop-at-test.true _ (rw r.1.0 at (c.passed.ensures _ _ c.new-l.ensures)))

pub invariant_of-kind : goal.invariant_of-kind
invariant_of-kind c =
    let r = mapped_ok _ _ _ _ c.in_ok-map_err.was c.map_err.ensures.cases in
    record { known = next_known _ _ _ _ c.loop-at-test.true (rw r at (c.passed.ensures _ _ c.new-l.ensures)) }

pub overflow_add-at : goal.overflow_add-at
overflow_add-at c =
    let r = mapped_ok _ _ _ _ c.in_ok-map_err.was c.map_err.ensures.cases in
    let n = next_fits _ _ _ _ c.loop-at-test.true (rw r at (c.passed.ensures _ _ c.new-l.ensures)) in
    omega (arith, c.size.ensures)

pub loop-at-preserved : goal.loop-at-preserved
loop-at-preserved c =
    let r = mapped_ok _ _ _ _ c.in_ok-map_err.was c.map_err.ensures.cases in
    passed_next c.loop-at.invariant c.loop-at-test.true _ (rw r at (c.passed.ensures _ _ c.new-l.ensures)) c.size.ensures

pub returns-clause-counts : goal.returns-clause-counts
returns-clause-counts c = passed_all c.loop-at.invariant (omega arith)
