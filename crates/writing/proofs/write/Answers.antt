-- Each refusal in turn, then the bytes.
use Rattle.std.proofs.lemmas.Result.{err_from_is_err_and}
use Rattle.writing.proofs.Whole.{heading_refused, step_refused, too_long, no_room, written}
use Rattle.writing.proofs.write.Goals as goal

pub returns-then-not-heading_fits-clause-session_after : goal.returns-then-not-heading_fits-clause-session_after
returns-then-not-heading_fits-clause-session_after c =
    let a = c.args in
    rw c.at.ensures (heading_refused a.nodes a.sheets a.owners.now a.steps.now a.session.now c.if-not-heading_fits.ensures)

pub returns-in_err-sizes-clause-session_after : goal.returns-in_err-sizes-clause-session_after
returns-in_err-sizes-clause-session_after c =
    let a = c.args in
    let p = err_from_is_err_and c.from_residual.result c.from_residual.ensures.1 in
    rw (p.1, p.2) (step_refused a.nodes a.sheets a.owners.now a.steps.now a.session.now c.if-not-heading_fits.ensures _ c.in_err-sizes.ensures)

pub returns-then-size-gt-MAX_SESSION-clause-session_after : goal.returns-then-size-gt-MAX_SESSION-clause-session_after
returns-then-size-gt-MAX_SESSION-clause-session_after c =
    let a = c.args in
    rw c.at-then-size-gt-MAX_SESSION.ensures (too_long a.nodes a.sheets a.owners.now a.steps.now a.session.now c.if-not-heading_fits.ensures _ c.in_ok-sizes.ensures c.if-size-gt-MAX_SESSION.true)

pub returns-then-session-size-clause-session_after : goal.returns-then-session-size-clause-session_after
returns-then-session-size-clause-session_after c =
    let a = c.args in
    rw c.at-then-session-size.ensures (no_room a.nodes a.sheets a.owners.now a.steps.now a.session.now c.if-not-heading_fits.ensures _ c.in_ok-sizes.ensures c.if-size-gt-MAX_SESSION.false c.if-session-size.true)

pub returns-clause-session_after : goal.returns-clause-session_after
returns-clause-session_after c =
    let a = c.args in
    written a.nodes a.sheets a.owners.now a.steps.now a.session.now c.if-not-heading_fits.ensures _ c.in_ok-sizes.ensures c.if-size-gt-MAX_SESSION.false c.if-session-size.false c.put_session.ensures
