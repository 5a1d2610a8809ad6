-- Before p the lines of the first p stand there, in room for as many.
use Prim.Native.Nat.{◌*◌}
use Rattle.rules.specs.Showing.{rising, order_line}
use Rattle.clipped.specs.Puts.{Puts}
use Rattle.showing.specs.Shows.{numbered_by}
use Rattle.showing.proofs.order_lines.Given as goal

abbrev pub invariant-loop-p : goal.invariant-loop-p
invariant-loop-p l = Puts l.initial.room l.room (rising (order_line (numbered_by l.x)) l.p) (l.p * 26)
