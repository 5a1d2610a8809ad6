-- The lines of the first rows are written.
use Prim.Native.Nat.{◌*◌}
use lib.ListN.{take}
use Rattle.text.specs.Writes.{Writes}
use Rattle.rows.specs.Rows.{lines_of}
use Rattle.rows.proofs.place_lines.Given as goal

abbrev pub invariant-loop-r : goal.invariant-loop-r
invariant-loop-r l = Writes l.initial.w l.w (lines_of (take l.r-index l.rows)) (26 * l.r-index)
