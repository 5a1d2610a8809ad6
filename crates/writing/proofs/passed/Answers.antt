-- 2, then 4 for the first two operands or for the third.
use mathlib.Core.Path.{◌≡◌}
use Rattle.std.specs.Prelude.{Err}
use Rattle.std.proofs.lemmas.Result.{err_from_is_err_and}
use Rattle.refusals.specs.declared.Refusal.TheVariants.{UnknownCommand}
use Rattle.forms.proofs.Slots.{check_unknown}
use Rattle.writing.proofs.Steps.{two_bad, third_bad, none_bad}
use Rattle.writing.proofs.passed.Goals as goal
use Rattle.writing.proofs.passed.Goals.{then-not-fits-via-then-not-fits, then-not-fits-via-else-not-fits+then-largest_third-z}

pub returns-in_err-kind : goal.returns-in_err-kind
returns-in_err-kind c n m b =
    let e = c.in_err-kind.ensures in
    let why : Err c.in_err-kind.field-0.0 ≡ Err UnknownCommand = rw e.ok_part at e.value in
    let k : c.in_err-kind.field-0.0 ≡ UnknownCommand = cc in
    let p = err_from_is_err_and c.from_residual.result c.from_residual.ensures.1 in
    rw (p.1, p.2, k) (check_unknown n m _ _ _ _ (rw e.ok_part at c.new.ensures))

pub returns-then-not-fits : goal.returns-then-not-fits
returns-then-not-fits c n m b =
    let a = c.args in
    let k = c.in_ok-kind.kind in
    let e : k.number ≡ a.c = rw c.in_ok-kind.ensures.ok_part at c.new.ensures in
    rw (← e)
    (elim c.then-not-fits.branch [
      | then-not-fits-via-then-not-fits w ↦ two_bad n m k.number a.x a.y a.z k.known _ (c.fits.ensures n m b) w.if-not-fits.true
      | then-not-fits-via-else-not-fits+then-largest_third-z w ↦ third_bad n m k.number a.x a.y a.z k.known _ (c.fits.ensures n m b) w.if-not-fits.false _ (w.largest_third.ensures n m) w.if-largest_third-z.true
    ])

pub returns : goal.returns
returns c n m b =
    let a = c.args in
    let k = c.in_ok-kind.kind in
    let e : k.number ≡ a.c = rw c.in_ok-kind.ensures.ok_part at c.new.ensures in
    (e, rw (← e) (none_bad n m k.number a.x a.y a.z k.known _ (c.fits.ensures n m b) c.if-not-fits.false _ (c.largest_third.ensures n m) c.if-largest_third-z.false))
