-- A refusal by the phase, or the first run.
use native.Mathlib.Omega.{arith}
use Rattle.state.specs.View.{tables}
use Rattle.std.proofs.Common.{rules}
use Rattle.saves.proofs.Phases.{run_fits, begin_out, begins, keeps_run}
use Rattle.saves.proofs.begin.Goals as goal

pub returns-then-p-ne-UNUSED : goal.returns-then-p-ne-UNUSED
returns-then-p-ne-UNUSED c =
    let x = c.args.x.now in
    let out = begin_out x.m x.bytes.now c.requires.0 c.in_ok-i.ensures c.out_of_phase.ensures c.if-p-ne-UNUSED.true in record {
      moves = out (tables x);
      kept = λ f. f;
      only = search rules;
      alone = record { moves = out; kept = λ y f. f };
    }

pub overflow_add-x-2 : goal.overflow_add-x-2
overflow_add-x-2 c = omega (arith, run_fits c.args.x.now.bytes.now c.in_ok-i.ensures c.requires.1)

pub returns : goal.returns
returns c =
    let x = c.args.x.now in
    let runs = begins x.m x.bytes.now c.requires.0 c.in_ok-i.ensures c.if-p-ne-UNUSED.false in
    let fits = keeps_run x.m x.bytes.now c.in_ok-i.ensures _ 1 in record {
      moves = runs (tables x);
      kept = fits (tables x);
      only = search rules;
      alone = record { moves = runs; kept = fits };
    }
