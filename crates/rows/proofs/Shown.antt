-- The lines that are written are those of the state that the slices show.
use mathlib.Core.Path.{◌≡◌, refl, sym, ◌∙◌}
use mathlib.Core.List.{List, [], ◌++◌, map}
use Prim.Native.Nat.{ℕ, zero, suc, ◌+◌, ◌<◌}
use native.Mathlib.Omega.{arith}
use lib.ListN.{length, take, length-drop}
use lib.Seq.{get_or-take, length-take-le}
use Rattle.rules.specs.State.{Sheet, Tally, by_last}
use Rattle.rules.specs.Report.{rows, place_lines, sheet_lines, tally_line, state_lines}
use Rattle.rules.proofs.LastPlaces.{last_cong}
use Rattle.state.specs.Slices.{slices}
use Rattle.state.specs.View.{placed, place_in, order_in, shown, ORDER}
use Rattle.state.proofs.Parts.{part_in}
use Rattle.text.specs.Lines.{sheets_of}
use Rattle.rows.specs.Rows.{row_in, Ordered, Lined}

sheets_shown : (f g : ℕ → Sheet) (m : ℕ) → ((k : ℕ) → k < m → f k ≡ g k) → sheet_lines f m ≡ sheet_lines g m
unfolding sheet_lines
sheets_shown f g zero e = refl
sheets_shown f g (suc k) e = rw (sheets_shown f g k (λ i l. e i (omega arith)), e k (omega arith))

module _ (m : ℕ) (b q w : List ℕ) (tally : Tally) where
  sheet_shown : (k : ℕ) → k < m → sheets_of m w k ≡ (shown m (slices b [] q [] [] w) tally).sheet k
  sheet_shown k h =
      let first : 0 + k ≡ k = omega arith in
      rw (part_in 0 m w k h, part_in m m w k h, first)

  -- the line is the rules' saves by last place
  by_rows : {n : ℕ} {line : List ℕ} → Ordered b q → Lined b q (placed q) line n → take n line ≡ by_last (take (placed q) (order_in b)) (place_in q) (length (take (placed q) (order_in b)))
  by_rows o l =
      l.all
      ∙ last_cong (order_in b) (place_in q) (take (placed q) (order_in b)) (placed q) (λ p h. sym (get_or-take (placed q) (order_in b) p 0 h))
      ∙ rw (length-take-le (placed q) (order_in b) (rw (length-drop ORDER b) (let a = o.bytes in omega arith)))

  pub written : {n : ℕ} {line : List ℕ} → Ordered b q → Lined b q (placed q) line n
      → place_lines (map (row_in b) (take n line)) ++ sheet_lines (sheets_of m w) m ++ tally_line tally ≡ state_lines (shown m (slices b [] q [] [] w) tally)
  unfolding rows state_lines
  written o l = rw (by_rows o l, sheets_shown (sheets_of m w) (shown m (slices b [] q [] [] w) tally).sheet m sheet_shown)
