-- Refusal 1, then that of a step, then 15; then the words.
use mathlib.Core.Path.{◌≡◌, sym, ◌∙◌}
use native.Mathlib.Omega.{arith}
use Rattle.std.specs.Prelude.{Err}
use Rattle.std.proofs.lemmas.Result.{err_from_is_err_and}
use Rattle.wire.proofs.Opening.{opening, header_within, unopened}
use Rattle.listing.proofs.Whole.{header_refused, step_refused, no_room, fits, stored, bytes_fit, counts_fit}
use Rattle.listing.proofs.read.Goals as goal

pub returns-in_err-header-clause-steps_after : goal.returns-in_err-header-clause-steps_after
returns-in_err-header-clause-steps_after c =
    let e = c.in_err-header.ensures in
    let z : Err c.in_err-header.field-0.0 ≡ Err c.at.result = rw e.ok_part at e.value in
    let k : c.in_err-header.field-0.0 ≡ c.at.result = cc in
    let p = err_from_is_err_and c.from_residual.result c.from_residual.ensures.1 in
    rw (p.1, p.2, k, c.at.ensures) (header_refused _ _ (unopened _ (sym c.read_header.ensures ∙ e.ok_part)))

pub tested-requires : goal.tested-requires
tested-requires c =
    let o = opening _ _ (sym c.read_header.ensures ∙ c.in_ok-header.ensures.ok_part) in
    (header_within o, counts_fit _ _ _ o)

pub returns-in_err-count-clause-steps_after : goal.returns-in_err-count-clause-steps_after
returns-in_err-count-clause-steps_after c =
    let o = opening _ _ (sym c.read_header.ensures ∙ c.in_ok-header.ensures.ok_part) in
    let p = err_from_is_err_and c.from_residual-in_err-count.result c.from_residual-in_err-count.ensures.1 in
    rw (p.1, p.2) (step_refused _ _ _ _ o _ c.in_err-count.ensures.counts)

pub returns-then-steps-count-clause-steps_after : goal.returns-then-steps-count-clause-steps_after
returns-then-steps-count-clause-steps_after c =
    let o = opening _ _ (sym c.read_header.ensures ∙ c.in_ok-header.ensures.ok_part) in
    rw c.at-then-steps-count.ensures (no_room _ _ _ _ o _ c.in_ok-count.ensures.counts c.if-steps-count.true)

pub put_steps-requires : goal.put_steps-requires
put_steps-requires c =
    let a = c.args in
    let o = opening _ _ (sym c.read_header.ensures ∙ c.in_ok-header.ensures.ok_part) in
    (header_within o, fits a.session.now a.steps.now _ _ o _ c.in_ok-count.ensures.counts (omega arith))

pub returns-clause-steps_after : goal.returns-clause-steps_after
returns-clause-steps_after c =
    let o = opening _ _ (sym c.read_header.ensures ∙ c.in_ok-header.ensures.ok_part) in
    stored _ _ _ _ o _ c.in_ok-count.ensures.counts (omega arith) c.put_steps.ensures

pub returns-clause-small : goal.returns-clause-small
returns-clause-small c =
    let o = opening _ _ (sym c.read_header.ensures ∙ c.in_ok-header.ensures.ok_part) in
    omega (arith, bytes_fit _ _ _ o, c.in_ok-count.ensures.few)
