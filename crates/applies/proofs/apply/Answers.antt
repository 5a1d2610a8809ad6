-- A refusal for each test, and the effect.
use native.Mathlib.Omega.{arith}
use Rattle.state.specs.View.{tables}
use Rattle.applies.proofs.Applying.{node8, apply_out, apply_11, done_committed, done_dropped}
use Rattle.std.proofs.Common.{rules}
use Rattle.applies.proofs.apply.Goals as goal

pub returns-then-p-lt-COMMITTED : goal.returns-then-p-lt-COMMITTED
returns-then-p-lt-COMMITTED c =
    let x = c.args.x.now in
    let out = apply_out c.requires.0 c.args.n c.if-x-n.false c.in_ok-i.ensures x.value.now x.sheets.now c.if-p-lt-COMMITTED.true c.out_of_phase.ensures in record {
      moves = out (tables x);
      kept = λ f. f;
      marks = search rules;
      only = search rules;
      alone = record { moves = out; kept = λ y f. f };
    }

pub has_entry-requires : goal.has_entry-requires
has_entry-requires c = let k = c.requires.0.kept in let row = c.in_ok-i.ensures in
    rw row.0 (k.sized.sets, c.requires.0.known.sheets16, node8 c.requires.0 c.args.n c.if-x-n.false row, row.1, k.sets.ends)

pub returns-then-not-has_entry : goal.returns-then-not-has_entry
returns-then-not-has_entry c =
    let x = c.args.x.now in
    let out = apply_11 c.requires.0 c.args.n c.if-x-n.false c.in_ok-i.ensures x.value.now x.sheets.now c.if-p-lt-COMMITTED.false c.has_entry.ensures c.if-not-has_entry.true in record {
      moves = out (tables x);
      kept = λ f. f;
      marks = search rules;
      only = search rules;
      alone = record { moves = out; kept = λ y f. f };
    }

pub leave-requires : goal.leave-requires
leave-requires c = let k = c.requires.0.kept in let row = c.in_ok-i.ensures in let n8 = node8 c.requires.0 c.args.n c.if-x-n.false row in
    rw row.0 (k.sized.sets, k.sized.queues, c.requires.0.known.sheets16, row.1, omega (arith, n8), k.sets.ends)

pub carry_out-requires : goal.carry_out-requires
carry_out-requires c = let g = c.leave.ensures in let r = c.requires in let row = c.in_ok-i.ensures in
    rw row.0 (rw g.long_s r.0.kept.sized.sets, r.1, r.2, r.0.known.sheets16, node8 r.0 c.args.n c.if-x-n.false row, row.1, g.ends, r.3)

pub returns-then-p-eq-COMMITTED : goal.returns-then-p-eq-COMMITTED
returns-then-p-eq-COMMITTED c =
    let x = c.args.x.now in
    let all = done_committed c.requires.0 c.args.n c.if-x-n.false c.in_ok-i.ensures x.value.now x.sheets.now c.if-p-lt-COMMITTED.false c.has_entry.ensures c.if-not-has_entry.false c.leave.ensures c.if-p-eq-COMMITTED.true c.carry_out.ensures in record {
      moves = all.0 (tables x);
      kept = all.1.0 (tables x);
      marks = λ e. all.1.1 (tables x);
      only = search rules;
      alone = record { moves = all.0; kept = all.1.0 };
    }

pub returns-else-p-eq-COMMITTED : goal.returns-else-p-eq-COMMITTED
returns-else-p-eq-COMMITTED c =
    let x = c.args.x.now in
    let all = done_dropped c.requires.0 c.args.n c.if-x-n.false c.in_ok-i.ensures x.value.now x.sheets.now c.if-p-lt-COMMITTED.false c.has_entry.ensures c.if-not-has_entry.false c.leave.ensures c.if-p-eq-COMMITTED.false in record {
      moves = all.0 (tables x);
      kept = all.1.0 (tables x);
      marks = λ e. all.1.1 (tables x);
      only = search rules;
      alone = record { moves = all.0; kept = all.1.0 };
    }
