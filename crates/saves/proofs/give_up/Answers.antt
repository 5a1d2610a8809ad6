-- A refusal by the phase, or the save dropped.
use Rattle.state.specs.View.{tables}
use Rattle.state.proofs.Steps.{refused_by}
use Rattle.std.proofs.Common.{rules}
use Rattle.saves.proofs.Phases.{give_up_out, gives_up, keeps_phase}
use Rattle.saves.proofs.give_up.Goals as goal

pub returns-in_err-in_run : goal.returns-in_err-in_run
returns-in_err-in_run c =
    let x = c.args.x.now in
    let out = give_up_out x.m x.bytes.now c.requires c.in_ok-i.ensures _ c.in_err-in_run.ensures in record {
      moves = refused_by _ c.from_residual-in_err-in_run.ensures.1 (out (tables x));
      kept = λ f. f;
      only = search rules;
      alone = record { moves = λ y. refused_by _ c.from_residual-in_err-in_run.ensures.1 (out y); kept = λ y f. f };
    }

pub returns : goal.returns
returns c =
    let x = c.args.x.now in
    let drops = gives_up x.m x.bytes.now c.requires c.in_ok-i.ensures c.in_ok-in_run.ensures in
    let fits = keeps_phase x.m x.bytes.now c.in_ok-i.ensures 5 in record {
      moves = drops (tables x);
      kept = fits (tables x);
      only = search rules;
      alone = record { moves = drops; kept = fits };
    }
