-- Block by block.
use Rattle.joining.specs.Joining.{Claimed}
use Rattle.joining.proofs.claim.Given as goal

abbrev pub invariant-loop-j : goal.invariant-loop-j
invariant-loop-j l = Claimed l.j l.t l.initial.s l.s
