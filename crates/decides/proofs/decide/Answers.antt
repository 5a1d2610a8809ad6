-- A refusal for each test, and the effect of each outcome.
use Rattle.state.specs.View.{tables}
use Rattle.std.proofs.Common.{rules}
use Rattle.decides.proofs.Decisions.{fits, settles, decide_out, decide_10, decide_first, decide_later, decide_again, keeps_settled}
use Rattle.decides.proofs.decide.Goals as goal

pub returns-then-p-ne-SUBMITTED : goal.returns-then-p-ne-SUBMITTED
returns-then-p-ne-SUBMITTED c =
    let row = c.in_ok-i.ensures in
    let out = decide_out c.requires c.args.t row.1 row.0 c.if-p-ne-SUBMITTED.true c.out_of_phase.ensures in record {
      moves = out (tables c.args.x.now);
      kept = λ f. f;
      only = search rules;
      alone = record { moves = out; kept = λ y f. f };
    }

pub decidable-requires : goal.decidable-requires
decidable-requires c = let row = c.in_ok-i.ensures in rw row.0 (fits c.requires c.args.t row.1)

pub returns-then-not-decidable : goal.returns-then-not-decidable
returns-then-not-decidable c =
    let row = c.in_ok-i.ensures in
    let out = decide_10 c.requires c.args.t row.1 row.0 c.if-p-ne-SUBMITTED.false c.decidable.ensures c.if-not-decidable.true in record {
      moves = out (tables c.args.x.now);
      kept = λ f. f;
      only = search rules;
      alone = record { moves = out; kept = λ y f. f };
    }

pub settle-requires : goal.settle-requires
settle-requires c = let row = c.in_ok-i.ensures in rw row.0 (settles c.requires c.args.t row.1)

pub settle-requires-2 : goal.settle-requires-2
settle-requires-2 c = let row = c.in_ok-i.ensures in rw row.0 (settles c.requires c.args.t row.1)

pub returns-then-settle : goal.returns-then-settle
returns-then-settle c =
    let x = tables c.args.x.now in let row = c.in_ok-i.ensures in let e = c.settle.ensures in let o = e.only in
    let outcome = decide_first c.requires c.args.t row.1 row.0 c.if-p-ne-SUBMITTED.false c.decidable.ensures c.if-not-decidable.false _ _ c.settle.result e.settled c.if-settle.true c.if-runs-le1.true in
    let fits = keeps_settled c.requires c.args.t row.1 row.0 _ _ c.settle.result e.settled in record {
      moves = rw (o.same.0, o.queues, o.value, o.seen, o.sheets) (outcome x);
      kept = rw (o.same.0, o.queues, o.value, o.seen, o.sheets) (fits x);
      only = o;
      alone = record { moves = outcome; kept = fits };
    }

pub returns-then-runs-le1 : goal.returns-then-runs-le1
returns-then-runs-le1 c =
    let x = tables c.args.x.now in let row = c.in_ok-i.ensures in let e = c.settle.ensures in let o = e.only in
    let outcome = decide_again c.requires c.args.t row.1 row.0 c.if-p-ne-SUBMITTED.false c.decidable.ensures c.if-not-decidable.false _ _ c.settle.result e.settled c.if-settle.false in
    let fits = keeps_settled c.requires c.args.t row.1 row.0 _ _ c.settle.result e.settled in record {
      moves = rw (o.same.0, o.queues, o.value, o.seen, o.sheets) (outcome x);
      kept = rw (o.same.0, o.queues, o.value, o.seen, o.sheets) (fits x);
      only = o;
      alone = record { moves = outcome; kept = fits };
    }

pub returns-then-settle-2 : goal.returns-then-settle-2
returns-then-settle-2 c =
    let x = tables c.args.x.now in let row = c.in_ok-i.ensures in let e = c.settle-2.ensures in let o = e.only in
    let outcome = decide_later c.requires c.args.t row.1 row.0 c.if-p-ne-SUBMITTED.false c.decidable.ensures c.if-not-decidable.false _ _ c.settle-2.result e.settled c.if-settle-2.true c.if-runs-le1.false in
    let fits = keeps_settled c.requires c.args.t row.1 row.0 _ _ c.settle-2.result e.settled in record {
      moves = rw (o.same.0, o.queues, o.value, o.seen, o.sheets) (outcome x);
      kept = rw (o.same.0, o.queues, o.value, o.seen, o.sheets) (fits x);
      only = o;
      alone = record { moves = outcome; kept = fits };
    }

pub returns : goal.returns
returns c =
    let x = tables c.args.x.now in let row = c.in_ok-i.ensures in let e = c.settle-2.ensures in let o = e.only in
    let outcome = decide_again c.requires c.args.t row.1 row.0 c.if-p-ne-SUBMITTED.false c.decidable.ensures c.if-not-decidable.false _ _ c.settle-2.result e.settled c.if-settle-2.false in
    let fits = keeps_settled c.requires c.args.t row.1 row.0 _ _ c.settle-2.result e.settled in record {
      moves = rw (o.same.0, o.queues, o.value, o.seen, o.sheets) (outcome x);
      kept = rw (o.same.0, o.queues, o.value, o.seen, o.sheets) (fits x);
      only = o;
      alone = record { moves = outcome; kept = fits };
    }
