-- What is known of the state and the list before each step is `Telling`; the state's references are those that were lent.
use Rattle.std.proofs.Common.{◌-◌, length}
use Rattle.state.specs.Lent.{Same}
use Rattle.state.specs.View.{tables}
use Rattle.answers.specs.Telling.{Telling}
use Rattle.answers.proofs.walk.Given as goal

abbrev pub invariant-loop-a : goal.invariant-loop-a
invariant-loop-a l = Telling l.session l.x.m (tables l.x) l.at l.initial.room l.room l.count × Same l.initial.x l.x

abbrev pub decreases-loop-a : goal.decreases-loop-a
decreases-loop-a l = length l.session - l.at
