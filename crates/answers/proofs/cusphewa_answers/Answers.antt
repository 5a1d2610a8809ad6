-- Refusal 1, or the list of the pass; that it is the answer call's on each prefix is the rules' theorem.
use Rattle.std.proofs.Common.{sym, ◌∙◌}
use Rattle.rules.proofs.Answers.{each_prefix}
use Rattle.rules.proofs.Few.{few_answers}
use Rattle.codes.proofs.Laws.{placed_told}
use Rattle.answers.proofs.Lists.{answers_of, no_answers}
use Rattle.answers.proofs.cusphewa_answers.Goals as goal

pub returns-in-Some-clause-list_after : goal.returns-in-Some-clause-list_after
returns-in-Some-clause-list_after c =
    (placed_told c.tell_all.result (c.tell_all.ensures.room_after ∙ answers_of c.args.session.now c.args.list.now (sym c.in-Some.ensures)) (c.placed_code.ensures.value, c.placed_code.ensures.decoded)).0

pub returns-in-Some-clause-decoded : goal.returns-in-Some-clause-decoded
returns-in-Some-clause-decoded c =
    (placed_told c.tell_all.result (c.tell_all.ensures.room_after ∙ answers_of c.args.session.now c.args.list.now (sym c.in-Some.ensures)) (c.placed_code.ensures.value, c.placed_code.ensures.decoded)).1

pub returns-in-Some-clause-prefixes : goal.returns-in-Some-clause-prefixes
returns-in-Some-clause-prefixes c = each_prefix c.args.session.now

pub returns-in-Some-clause-few : goal.returns-in-Some-clause-few
returns-in-Some-clause-few c = few_answers c.args.session.now

pub returns-in-None-clause-list_after : goal.returns-in-None-clause-list_after
returns-in-None-clause-list_after c =
    (no_answers c.args.session.now (sym c.in-None.ensures) c.args.list.now (rw c.at.ensures at c.refusal_code.ensures.value) (rw c.at.ensures at c.refusal_code.ensures.decoded)).0

pub returns-in-None-clause-decoded : goal.returns-in-None-clause-decoded
returns-in-None-clause-decoded c =
    (no_answers c.args.session.now (sym c.in-None.ensures) c.args.list.now (rw c.at.ensures at c.refusal_code.ensures.value) (rw c.at.ensures at c.refusal_code.ensures.decoded)).1

pub returns-in-None-clause-prefixes : goal.returns-in-None-clause-prefixes
returns-in-None-clause-prefixes c = each_prefix c.args.session.now

pub returns-in-None-clause-few : goal.returns-in-None-clause-few
returns-in-None-clause-few c = few_answers c.args.session.now
