-- The session shows the rules' state after the commands so far.
use mathlib.Core.Path.{◌≡◌}
use Rattle.state.specs.View.{tables, shown_by}
use Rattle.state.specs.Fit.{Fit}
use Rattle.state.specs.Lent.{Same}
use Rattle.worked.specs.Worked.{state_after}
use Rattle.worked.proofs.run.Given as goal

abbrev pub invariant-loop-i : goal.invariant-loop-i
invariant-loop-i g l = Same l.initial.x l.x × Fit l.x.m (tables l.x) × (shown_by l.x (state_after l.i).tally ≡ state_after l.i)
