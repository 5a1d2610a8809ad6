-- A turn for each sheet of the block.
use Rattle.leaving.proofs.Going.{Going}
use Rattle.leaving.proofs.leave_block.Given as goal

abbrev pub invariant-loop-left : goal.invariant-loop-left
invariant-loop-left l = Going l.m l.t l.j l.ours l.initial.q l.q l.left

abbrev pub decreases-loop-left : goal.decreases-loop-left
decreases-loop-left l = l.left
