-- Before sheet k the lines of the first k queues stand there, in room for as many.
use Prim.Native.Nat.{◌*◌}
use lib.ListN.{take}
use Rattle.rules.specs.Showing.{rising}
use Rattle.clipped.specs.Puts.{Puts}
use Rattle.waits.proofs.Shown.{queue_in_line}
use Rattle.waits.proofs.lines.Given as goal

abbrev pub invariant-loop-k : goal.invariant-loop-k
invariant-loop-k l = Puts l.initial.room l.room (rising (queue_in_line l.x.queues.now (take l.n l.line)) l.k) (l.k * 3968)
