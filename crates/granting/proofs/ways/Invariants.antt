-- Each claimed sheet adds those in the way there.
use Rattle.granting.proofs.Looking.{Going}
use Rattle.granting.proofs.ways.Given as goal

abbrev pub invariant-loop-i : goal.invariant-loop-i
invariant-loop-i l = Going l.s l.q l.t l.j l.all l.i-iterator.left
