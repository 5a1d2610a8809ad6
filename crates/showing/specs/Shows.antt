-- What a session has where it shows a state, and the room for its text.
use Rattle.std.specs.Prelude.{ℕ, ◌+◌, ◌*◌, ◌≤◌, ◌<◌, Bool, ◌&&◌, [], length, get_or}
use Rattle.rules.specs.Sizes.{max_sheets}
use Rattle.rules.specs.State.{State, is_second}
use Rattle.sets.specs.Bit.{stride, blocks}
use Rattle.state.specs.declared.Session.{Session}
use Rattle.state.specs.View.{as_phase, part, placed, bare, PHASE, NODES, ORDER, TAKEN, rows}
use Rattle.state.specs.Fit.{most_places, Table, Sets, ReadyIn}
use Rattle.submits.specs.Wide.{wide_in}
use Rattle.rows.specs.Rows.{Ordered}

-- what a save's letters are read from
pub record Marked (x : Session) : Type 0 where
  pub bytes : ORDER ≤ length x.bytes.now
  pub few : x.m < 65536
  pub reach : stride * blocks x.m + rows ≤ length x.sets.now + stride
  pub sets : Sets x.m x.sets.now

-- what the numbers of places are read from
pub record Numbered (x : Session) : Type 0 where
  pub ordered : Ordered x.bytes.now x.queues.now
  pub fits : placed x.queues.now ≤ most_places
  pub takens : (n : ℕ) → n < 8 → get_or x.queues.now (TAKEN + n) 0 ≤ placed x.queues.now
  pub nodes : get_or x.bytes.now NODES 0 ≤ 8

-- the state as far as bytes, sets and queues show it; as far as order and nodes do, and no sheets
abbrev pub unstored : Session → State
unstored x = bare x.m x.bytes.now x.sets.now x.queues.now

abbrev pub numbered_by : Session → State
numbered_by x = bare 0 x.bytes.now [] x.queues.now

-- save t is in a later run that is wide
abbrev pub wide_run : Session → ℕ → Bool
wide_run x t = is_second (as_phase (part PHASE 32 x.bytes.now t)) && wide_in x.m x.sets.now t

-- all of it
pub record Shows (x : Session) : Type 0 where
  pub ready : ReadyIn x
  pub values : Table 32 x.m x.value.now
  pub seens : Table 32 x.m x.seen.now
  pub stored : Table 2 x.m x.sheets.now
  pub few : x.m ≤ max_sheets

-- the report's lines, the saves', the order's, the nodes', claims and copies, queues
abbrev pub text_room : ℕ → ℕ
text_room m = 867 + 35 * m + 1312 + 71552 + 192 + 32 * (52 * m) + m * 3968
