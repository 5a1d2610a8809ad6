-- What is known of the state before each step is `Looping`; its references are those that were lent.
use Rattle.std.proofs.Common.{◌-◌, length}
use Rattle.state.specs.Lent.{Same}
use Rattle.state.specs.View.{tables}
use Rattle.session.specs.Meaning.{reply_in}
use Rattle.session.specs.Looping.{Looping}
use Rattle.session.proofs.steps.Given as goal

abbrev pub invariant-loop-a : goal.invariant-loop-a
invariant-loop-a l = Looping l.session l.x.m (tables l.x) l.tally (reply_in l.last) l.at × Same l.initial.x l.x

abbrev pub decreases-loop-a : goal.decreases-loop-a
decreases-loop-a l = length l.session - l.at
