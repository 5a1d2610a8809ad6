-- A turn for each sheet of the block.
use Rattle.storing.proofs.Carry.{Storing}
use Rattle.storing.proofs.store_block.Given as goal

abbrev pub invariant-loop-i : goal.invariant-loop-i
invariant-loop-i l = Storing l.m l.t l.j l.ours l.value l.initial.w l.w l.i-iterator.left
