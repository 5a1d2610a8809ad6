use Rattle.queues.proofs.Going.{Going}
use Rattle.queues.proofs.front.Given as goal

abbrev pub invariant-loop-left : goal.invariant-loop-left
invariant-loop-left l = Going l.q l.x l.u l.left

abbrev pub decreases-loop-left : goal.decreases-loop-left
decreases-loop-left l = l.left
