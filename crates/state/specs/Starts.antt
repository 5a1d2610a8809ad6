-- What a session starts from.
use Rattle.std.specs.Prelude.{ℕ, ◌+◌, ◌*◌, ◌≤◌, ◌≡◌, List, length, get_or}
use Rattle.std.specs.Borrow.{MutBor}
use Rattle.rules.specs.Bytes.{Header}
use Rattle.rules.specs.State.{fresh}
use Rattle.sets.specs.Bit.{stride, blocks}
use Rattle.state.specs.Slices.{Slices}
use Rattle.state.specs.declared.Session.{Session}
use Rattle.state.specs.View.{shown, no_tally, ORDER, QUEUE, rows}
use Rattle.state.specs.Fit.{most_places, Table, Fit}

abbrev pub Zero : List ℕ → Type 0
Zero l = (i : ℕ) → ◌≡◌ {A = ℕ} (get_or l i 0) 0

-- slices of zeros that are long enough for m sheets
pub record Blank (m : ℕ) (x : Slices) : Type 0 where
  pub bytes : ORDER + most_places ≤ length x.bytes
  pub sets : stride * blocks m + rows ≤ length x.sets + stride
  pub queues : QUEUE + 2 * m ≤ length x.queues
  pub value : Table 32 m x.value
  pub seen : Table 32 m x.seen
  pub sheets : Table 2 m x.sheets
  pub bytes0 : Zero x.bytes
  pub sets0 : Zero x.sets
  pub queues0 : Zero x.queues
  pub value0 : Zero x.value
  pub seen0 : Zero x.seen
  pub sheets0 : Zero x.sheets

-- so many nodes, and a sheet for each owner
abbrev pub header_by : ℕ → List ℕ → Header
header_by nodes owners = record { nodes = nodes; sheets = length owners; owner = λ k. get_or owners k 0 }

-- they show the fresh state of these nodes and owners, and every command may be lent them
pub record Starts (nodes : ℕ) (owners : List ℕ) (x : Slices) : Type 0 where
  pub shows : shown (length owners) x no_tally ≡ fresh (header_by nodes owners)
  pub fit : Fit (length owners) x

-- a session that was lent these tables has their references, so whoever lent them finds there what it leaves
pub record Holds (x : Session) (b s q value' seen' w : MutBor (List ℕ)) : Type 0 where
  pub bytes : x.bytes.ghost_name ≡ b.ghost_name
  pub sets : x.sets.ghost_name ≡ s.ghost_name
  pub queues : x.queues.ghost_name ≡ q.ghost_name
  pub value : x.value.ghost_name ≡ value'.ghost_name
  pub seen : x.seen.ghost_name ≡ seen'.ghost_name
  pub sheets : x.sheets.ghost_name ≡ w.ghost_name
