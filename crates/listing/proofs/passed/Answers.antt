-- 2, then 3, then 4 by the first two operands.
use mathlib.Core.Path.{◌≡◌}
use native.Mathlib.Omega.{arith}
use lib.ListN.{get_or}
use Rattle.std.specs.Prelude.{Err}
use Rattle.std.proofs.lemmas.Result.{err_from_is_err_and}
use Rattle.refusals.specs.declared.Refusal.TheVariants.{UnknownCommand}
use Rattle.forms.proofs.Shapes.{size_small}
use Rattle.listing.proofs.Operands.{step_unknown, step_cut, step_judged}
use Rattle.listing.proofs.passed.Goals as goal

pub returns-in_err-kind : goal.returns-in_err-kind
returns-in_err-kind c n m b =
    let e = c.in_err-kind.ensures in
    let why : Err c.in_err-kind.field-0.0 ≡ Err UnknownCommand = rw e.ok_part at e.value in
    let k : c.in_err-kind.field-0.0 ≡ UnknownCommand = cc in
    let p = err_from_is_err_and c.from_residual.result c.from_residual.ensures.1 in
    rw (p.1, p.2, k) (step_unknown n m c.args.session.now c.args.at c.requires (rw e.ok_part at c.new.ensures))

pub returns-then-session-at : goal.returns-then-session-at
returns-then-session-at c n m b =
    let a = c.args in
    let k = c.in_ok-kind.kind in
    let e : k.number ≡ get_or a.session.now a.at 0 = rw c.in_ok-kind.ensures.ok_part at c.new.ensures in
    step_cut n m a.session.now a.at c.requires (rw e at k.known) (omega (arith, rw e at c.size-size.ensures))

pub bounds-session-at-2 : goal.bounds-session-at-2
bounds-session-at-2 c =
    let k = c.in_ok-kind.kind in
    omega (arith, c.size-size.ensures, size_small k.number k.known)

pub second-requires : goal.second-requires
second-requires c =
    let k = c.in_ok-kind.kind in
    let s = size_small k.number k.known in
    (omega (arith, c.size-size.ensures), omega arith)

pub returns-then-not-fits : goal.returns-then-not-fits
returns-then-not-fits c n m b =
    let a = c.args in
    let k = c.in_ok-kind.kind in
    let e : k.number ≡ get_or a.session.now a.at 0 = rw c.in_ok-kind.ensures.ok_part at c.new.ensures in
    let z = rw e at c.size-size.ensures in
    step_judged n m a.session.now a.at c.requires (rw e at k.known) (omega (arith, z)) (λ i. omega (arith, c.type_inv.session i)) _ _ _ (rw z at c.second.ensures) (rw e at (c.fits.ensures n m b)) c.if-not-fits.true

pub returns : goal.returns
returns c n m b =
    let a = c.args in
    let k = c.in_ok-kind.kind in
    let e : k.number ≡ get_or a.session.now a.at 0 = rw c.in_ok-kind.ensures.ok_part at c.new.ensures in
    let z = rw e at c.size-size.ensures in
    step_judged n m a.session.now a.at c.requires (rw e at k.known) (omega (arith, z)) (λ i. omega (arith, c.type_inv.session i)) _ _ _ (rw z at c.second.ensures) (rw e at (c.fits.ensures n m b)) c.if-not-fits.false
