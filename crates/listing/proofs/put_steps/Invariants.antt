-- The steps before the offset stand in the first words.
use Prim.Native.Nat.{◌-◌}
use lib.ListN.{length}
use Rattle.listing.proofs.Storing.{Storing}
use Rattle.listing.proofs.put_steps.Given as goal

abbrev pub invariant-loop-at : goal.invariant-loop-at
invariant-loop-at l = Storing l.session l.initial.steps l.start l.at l.i l.steps

abbrev pub decreases-loop-at : goal.decreases-loop-at
decreases-loop-at l = length l.session - l.at
