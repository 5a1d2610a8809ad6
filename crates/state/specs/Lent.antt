-- The tables that a command may change, and what it is for a command to do what its rule says.
use Rattle.std.specs.Prelude.{ℕ, ◌≡◌, List, length, Result}
use Rattle.rules.specs.Bytes.{Command}
use Rattle.rules.specs.State.{Tally, State}
use Rattle.rules.specs.Steps as rules
use Rattle.refusals.specs.declared.Refusal.{Refusal}
use Rattle.state.specs.View.{shown, shown_by, tables, result_in, advanced_in}
use Rattle.state.specs.Fit.{Fit}
use Rattle.state.specs.Slices.{Slices, slices}
use Rattle.state.specs.declared.Answer.{Answer}
use Rattle.state.specs.declared.Session.{Session}

-- ---- Some of the tables, among whatever the others are

abbrev pub Lent : Type 0
Lent = Slices → Slices

-- the bytes alone; sets and queues beside them; a save's own contents; what a TAKE looks at; what an APPLY changes
abbrev pub own : List ℕ → Lent
own b x = slices b x.sets x.queues x.value x.seen x.sheets

abbrev pub saving : (b s q : List ℕ) → Lent
saving b s q x = slices b s q x.value x.seen x.sheets

abbrev pub writing : (b s value : List ℕ) → Lent
writing b s value x = slices b s x.queues value x.seen x.sheets

abbrev pub taking : (b s q seen w : List ℕ) → Lent
taking b s q seen w x = slices b s q x.value seen w

abbrev pub applying : (b s q value w : List ℕ) → Lent
applying b s q value w x = slices b s q value x.seen w

abbrev pub all : (b s q value seen w : List ℕ) → Lent
all b s q value seen w x = slices b s q value seen w

-- ---- What stays as it was

-- a session's references are the same, its number of sheets, and how long its tables are
abbrev pub Same : Session → Session → Type 0
Same x x' = (x'.m ≡ x.m) × (x'.bytes.ghost_name ≡ x.bytes.ghost_name) × (x'.sets.ghost_name ≡ x.sets.ghost_name) × (x'.queues.ghost_name ≡ x.queues.ghost_name)
    × (x'.value.ghost_name ≡ x.value.ghost_name) × (x'.seen.ghost_name ≡ x.seen.ghost_name) × (x'.sheets.ghost_name ≡ x.sheets.ghost_name)
    × (length x'.bytes.now ≡ length x.bytes.now) × (length x'.sets.now ≡ length x.sets.now) × (length x'.queues.now ≡ length x.queues.now)
    × (length x'.value.now ≡ length x.value.now) × (length x'.seen.now ≡ length x.seen.now) × (length x'.sheets.now ≡ length x.sheets.now)

-- so, and its tables are those before, but for these
pub record Only (after : Lent) (x x' : Session) : Type 0 where
  pub same : Same x x'
  pub bytes : x'.bytes.now ≡ (after (tables x)).bytes
  pub sets : x'.sets.now ≡ (after (tables x)).sets
  pub queues : x'.queues.now ≡ (after (tables x)).queues
  pub value : x'.value.now ≡ (after (tables x)).value
  pub seen : x'.seen.now ≡ (after (tables x)).seen
  pub sheets : x'.sheets.now ≡ (after (tables x)).sheets

-- ---- What a command does

-- the state after and the result are those of the rules' step, whatever the tally
pub record Steps (before : Tally → State) (c : Command) (after : Tally → State) (r : Result Answer Refusal) : Type 0 where
  pub equation : (tally : Tally) → ◌≡◌ {A = rules.Stepped} (record { state = after (advanced_in tally r); result = result_in r }) (rules.step (before tally) c)

-- it does what its rule says, and sizes and sets stand, by these tables alone: whatever the others are
pub record Alone (m : ℕ) (before : Lent) (c : Command) (after : Lent) (r : Result Answer Refusal) : Type 0 where
  pub moves : (y : Slices) → Steps (shown m (before y)) c (shown m (after y)) r
  pub kept : (y : Slices) → Fit m (before y) → Fit m (after y)

-- so of a session's own tables
abbrev pub Moves : (before : Session) → Command → (after : Session) → Result Answer Refusal → Type 0
Moves x c x' r = Steps (shown_by x) c (shown_by x') r

-- sizes and sets stand
abbrev pub Keeps : (before after : Session) → Type 0
Keeps x x' = Fit x.m (tables x) → Fit x'.m (tables x')
