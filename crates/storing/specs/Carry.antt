-- What becomes of the sheets that receive.
use Rattle.std.specs.Prelude.{ℕ, ◌+◌, ◌*◌, ◌/◌, ◌<◌, ◌≡◌, Bool, cond, List, length, get_or}
use Rattle.rules.specs.State.{Sheet, store}
use Rattle.state.specs.View.{part}

-- sheet k, as the slice shows it
abbrev pub sheet_in : ℕ → List ℕ → ℕ → Sheet
sheet_in m w k = record { content = part 0 m w k; wct = part m m w k }

-- the sheets `hit` have received save t's contents, the others are as they were
pub record Received (m t : ℕ) (value : List ℕ) (hit : ℕ → Bool) (w w' : List ℕ) : Type 0 where
  pub long : length w' ≡ length w
  pub sheet : (k : ℕ) → k < m → sheet_in m w' k ≡ cond (hit k) (store (sheet_in m w k) (get_or value (t * m + k) 0)) (sheet_in m w k)

-- a write counter of block j can rise
abbrev pub RisingIn : (m j : ℕ) → List ℕ → Type 0
RisingIn m j w = (k : ℕ) → k / 64 ≡ j → part m m w k < 65535
