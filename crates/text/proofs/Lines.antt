-- O lines one after the other, as the loop writes them.
use mathlib.Core.Path.{◌≡◌}
use mathlib.Core.List.{List, ◌++◌}
use Prim.Native.Nat.{ℕ, ◌+◌}
use native.Mathlib.Numerals.{add-one}
use lib.ListN.{get_or}
use Rattle.rules.specs.Report.{sheet_line, sheet_lines}
use Rattle.text.specs.Lines.{sheets_of}

module _ (m : ℕ) (w : List ℕ) (k : ℕ) where
  pub sheet_more : sheet_lines (sheets_of m w) k ++ sheet_line k (get_or w k 0) (get_or w (m + k) 0) ≡ sheet_lines (sheets_of m w) (k + 1)
  unfolding sheet_lines
  sheet_more = rw add-one
