-- Rows as the rules' rows, and the saves by last place as a line.
use Rattle.std.specs.Prelude.{ℕ, ◌+◌, ◌≤◌, ◌<◌, ◌≡◌, List, map, length, get_or, take}
use Rattle.rules.specs.State.{at, by_last}
use Rattle.rules.specs.Report as rules
use Rattle.state.specs.View.{as_phase, part, placed, place_in, order_in, PHASE, RUNS, ORDER, QUEUE}
use Rattle.rows.specs.declared.Row.{Row}

abbrev pub row_of : Row → rules.Row
row_of r = record { save = r.save; runs = r.runs; outcome = r.outcome }

abbrev pub lines_of : List Row → List ℕ
lines_of rs = rules.place_lines (map row_of rs)

-- save t's row
abbrev pub row_in : (b : List ℕ) (t : ℕ) → rules.Row
row_in b t = record { save = t; runs = part RUNS 32 b t; outcome = rules.letter (as_phase (part PHASE 32 b t)) }

-- ---- The line

-- the order's places stand in the bytes, each with one of the 32 saves
pub record Ordered (b q : List ℕ) : Type 0 where
  pub bytes : ORDER + placed q ≤ length b
  pub numbers : QUEUE ≤ length q
  pub small : (p : ℕ) → p < placed q → at (order_in b) p < 32

-- the first n of a line are saves
abbrev pub Small : (line : List ℕ) (n : ℕ) → Type 0
Small line n = (i : ℕ) → i < n → get_or line i 0 < 32

-- they are those whose last place is before p, by last place
pub record Lined (b q : List ℕ) (p : ℕ) (line : List ℕ) (n : ℕ) : Type 0 where
  pub all : take n line ≡ by_last (order_in b) (place_in q) p
  pub few : n ≤ 32
  pub long : 32 ≤ length line
  pub small : Small line n
