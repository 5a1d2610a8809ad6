-- Save by save.
use Rattle.joining.specs.Joining.{Ahead}
use Rattle.joining.proofs.give_place.Given as goal

abbrev pub invariant-loop-u : goal.invariant-loop-u
invariant-loop-u l = Ahead l.u l.t l.initial.q l.q
