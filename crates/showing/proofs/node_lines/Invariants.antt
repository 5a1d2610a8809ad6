-- Before n the lines of the first n stand there, in room for as many.
use Prim.Native.Nat.{◌*◌}
use Rattle.rules.specs.Showing.{rising, node_line}
use Rattle.clipped.specs.Puts.{Puts}
use Rattle.showing.specs.Shows.{numbered_by}
use Rattle.showing.proofs.node_lines.Given as goal

abbrev pub invariant-loop-n : goal.invariant-loop-n
invariant-loop-n l = Puts l.initial.room l.room (rising (node_line (numbered_by l.x)) l.n) (l.n * 24)
