-- Row by row, from the first in line on.
use mathlib.Core.Path.{◌≡◌}
use mathlib.Core.List.{map}
use lib.ListN.{length, take}
use Rattle.rows.specs.Rows.{row_of, row_in}
use Rattle.rows.proofs.rows_of.Given as goal

abbrev pub invariant-loop-i : goal.invariant-loop-i
invariant-loop-i l = (length l.rows ≡ 32) × (map row_of (take l.i l.rows) ≡ map (row_in l.b) (take l.i l.line))
