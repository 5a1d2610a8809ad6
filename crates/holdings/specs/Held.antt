-- A save's claim and mark as the sets have them, and what the lines are read from.
use Rattle.std.specs.Prelude.{ℕ, ◌+◌, ◌*◌, ◌/◌, ◌≤◌, ◌<◌, List, [], length}
use Rattle.rules.specs.State.{Claim, Mark, State}
use Rattle.sets.specs.Bit.{in_row, stride, blocks}
use Rattle.state.specs.Slices.{slices}
use Rattle.state.specs.declared.Session.{Session}
use Rattle.state.specs.View.{claim_of, mark_of, shown, no_tally, COPIED, WRITTEN, CLAIM, CLAIM_X, rows}
use Rattle.state.specs.Fit.{Table, Sets}

-- save t's claim of sheet k, and its copy
abbrev pub claim_at : List ℕ → (t k : ℕ) → Claim
claim_at s t k = claim_of (in_row s (CLAIM + t) k) (in_row s (CLAIM_X + t) k)

abbrev pub mark_at : List ℕ → (t k : ℕ) → Mark
mark_at s t k = mark_of (in_row s (COPIED + t) k) (in_row s (WRITTEN + t) k)

-- sheet k's block has save t's rows
abbrev pub Reach : List ℕ → (t k : ℕ) → Type 0
Reach s t k = (t < 32) × (stride * (k / 64) + rows ≤ length s)

-- the tables of a session's sheets
pub record Readable (x : Session) : Type 0 where
  pub few : x.m < 65536
  pub reach : stride * blocks x.m + rows ≤ length x.sets.now + stride
  pub sets : Sets x.m x.sets.now
  pub values : Table 32 x.m x.value.now
  pub counters : Table 32 x.m x.seen.now
  pub sheets : Table 2 x.m x.sheets.now

-- the state as far as they show it
abbrev pub held_by : Session → State
held_by x = shown x.m (slices [] x.sets.now [] x.value.now x.seen.now x.sheets.now) no_tally
