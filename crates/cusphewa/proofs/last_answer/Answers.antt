-- A session that does not open answers refusal 1, another by where its run stops.
use Rattle.std.proofs.Common.{◌≡◌, Some, None, Err}
use borrow.Author.Rules.{rules}
use Rattle.refusals.specs.declared.Refusal.TheVariants.{BadHeader}
use Rattle.wire.specs.Meaning.{opened}
use Rattle.cusphewa.proofs.Laws.{reply_bad, replies_last, replies_refused, place_near}
use Rattle.cusphewa.proofs.last_answer.Goals as goal

pub returns-in_err-header-clause-answer : goal.returns-in_err-header-clause-answer
returns-in_err-header-clause-answer c =
    let e : opened c.args.session.now ≡ None = search rules in
    let r : c.from_residual.result ≡ Err (record { place = 0; why = BadHeader }) = search rules in
    rw r (reply_bad _ e)

pub returns-in_err-e-clause-answer : goal.returns-in_err-e-clause-answer
returns-in_err-e-clause-answer c =
    let e : opened c.args.session.now ≡ Some c.in_ok-header.header = search rules in
    let r : c.from_residual-in_err-e.result ≡ Err c.in_err-e.field-0.0 = search rules in
    rw r (replies_refused _ _ e _ c.unreported-e.ensures c.in_err-e.field-0.0 c.in_err-e.was)

pub returns-in_err-e-clause-near : goal.returns-in_err-e-clause-near
returns-in_err-e-clause-near c =
    let e : opened c.args.session.now ≡ Some c.in_ok-header.header = search rules in
    let r : c.from_residual-in_err-e.result ≡ Err c.in_err-e.field-0.0 = search rules in
    rw r (place_near _ _ e _ c.unreported-e.ensures c.in_err-e.field-0.0 c.in_err-e.was)

pub returns-clause-answer : goal.returns-clause-answer
returns-clause-answer c =
    let e : opened c.args.session.now ≡ Some c.in_ok-header.header = search rules in
    replies_last _ _ e _ c.unreported-e.ensures c.in_ok-e.was
