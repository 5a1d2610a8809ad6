-- The node count is stored, and each sheet joins its owner's set.
use lib.ListN.{length}
use Rattle.state.proofs.Fresh.{Owned}
use Rattle.state.proofs.Session.fresh.Given as goal

abbrev pub invariant-loop-k : goal.invariant-loop-k
invariant-loop-k l = Owned (length l.owners) l.owners l.initial.sets l.sets l.k
