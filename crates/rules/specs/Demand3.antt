-- Demand 3: one claim about a header and a whole list of commands from new nodes, up to its end or its first refused command.
use Rattle.std.specs.Prelude.{ℕ, ◌+◌, ◌*◌, ◌≤◌, ◌≡◌, Bool, true, false, ◌&&◌, List, [], ◌∷◌, map, length}
use Rattle.std.proofs.Math.Option.{Option, none, some}
use Rattle.rules.specs.Table.{count}
use Rattle.rules.specs.Sizes.{max_saves}
use Rattle.rules.specs.Bytes.{Header, in_range, Command, Begin, Read, Write, Submit, Take, Decide, Apply, GiveUp, header, opens, reading, Step}
use Rattle.rules.specs.State.{State, fresh, is_second, claims, wide}
use Rattle.rules.specs.Steps.{mem, Answer, Result, answered, refused, step, Event, run}
use Rattle.rules.specs.Serial.{Fed, feed, History, history, serial_shows, serial_leaves, first_reads}

-- ---- After the accepted commands of a list

abbrev pub events : Header → List Command → List Event
events h cs = (run (fresh h) cs).events

abbrev pub after : Header → List Command → State
after h cs = (run (fresh h) cs).state

-- what the serial run is fed, and what it says of the saves
abbrev pub fed : Header → List Command → List Fed
fed h cs = map feed (events h cs)

abbrev pub told : Header → List Command → History
told h cs = history (fed h cs)

abbrev pub first_answers : Header → List Command → ℕ → ℕ → Option ℕ
first_answers h cs = first_reads (λ t k. none) (events h cs)

-- ---- The clauses

-- The first READ of each sheet in the last run of each committed save answered exactly the content that the serial run shows it.
abbrev pub Reads : Header → List Command → Type 0
Reads h cs = (t k v : ℕ) → (told h cs).committed t ≡ true → first_answers h cs t k ≡ some v → v ≡ serial_shows (fed h cs) t k

-- Every committed save is carried out (document 01's term) at all its nodes: its APPLY was accepted at each node that owns a sheet
-- of its claim.
abbrev pub CarriedOut : Header → List Command → Type 0
CarriedOut h cs = (t k : ℕ) → (told h cs).committed t ≡ true → claims ((after h cs).claim t k) ≡ true → (told h cs).applied (h.owner k) t ≡ true

-- Then the store, all contents and WCTs, equals what the serial run leaves.
abbrev pub Store : Header → List Command → Type 0
Store h cs = CarriedOut h cs → (k : ℕ) → (after h cs).sheet k ≡ serial_leaves (fed h cs) k

-- No save has entered more than 2 + 2×M runs.
abbrev pub Runs : Header → List Command → Type 0
Runs h cs = (t : ℕ) → (told h cs).runs t ≤ 2 + 2 * h.sheets

-- TAKE, DECIDE, SUBMIT of a later run and APPLY
abbrev pub of_four_kinds : State → Command → Bool
of_four_kinds s (Begin t) = false
of_four_kinds s (Read t k) = false
of_four_kinds s (Write t k v) = false
of_four_kinds s (Submit t) = is_second (s.phase t)
of_four_kinds s (Take n) = true
of_four_kinds s (Decide t) = true
of_four_kinds s (Apply n t) = true
of_four_kinds s (GiveUp t) = false

-- a list of these alone, each as the state stands when its turn comes
unfoldable pub FourKinds : State → List Command → Type 0
FourKinds s [] = Unit {0}
FourKinds s (c ∷ cs) = (of_four_kinds s c ≡ true) × FourKinds (step s c).state cs

abbrev pub one_if_accepted : Result → ℕ
one_if_accepted (answered a) = 1
one_if_accepted (refused n) = 0

-- how many of a list are accepted; a refused one changes nothing, and the list goes on
unfoldable pub accepted_of : State → List Command → ℕ
accepted_of s [] = 0
accepted_of s (c ∷ cs) = one_if_accepted (step s c).result + accepted_of (step s c).state cs

-- P, all places
abbrev pub places : Header → List Command → ℕ
places h cs = length (told h cs).order

-- W, the saves that are now in a wide run
abbrev pub wide_runs : State → ℕ
wide_runs s = count max_saves (λ t. is_second (s.phase t) && wide s t)

-- Whatever list of the four kinds follows alone, at most (2×N+2)×(P+W) of them are accepted, even where it goes on after a refused one.
abbrev pub Bound : Header → List Command → Type 0
Bound h cs = (more : List Command) → FourKinds (after h cs) more → accepted_of (after h cs) more ≤ (2 * h.nodes + 2) * (places h cs + wide_runs (after h cs))

-- Whenever a queue holds an entry, some command of the four kinds is accepted next.
abbrev pub Progress : Header → List Command → Type 0
Progress h cs = (k t : ℕ) → mem t ((after h cs).queue k) ≡ true
    → (c : Command) × (of_four_kinds (after h cs) c ≡ true) × ((a : Answer) × ((step (after h cs) c).result ≡ answered a))

pub record Demand3 (h : Header) (cs : List Command) : Type 0 where
  pub reads : Reads h cs
  pub store : Store h cs
  pub runs : Runs h cs
  pub bound : Bound h cs
  pub progress : Progress h cs

-- ---- The claim, for lists and for sessions

-- for every header in range and every list of commands
abbrev pub Always : Type 0
Always = (h : Header) (cs : List Command) → in_range h ≡ true → Demand3 h cs

abbrev pub session_commands : List ℕ → List Command
session_commands b = map (λ (s : Step). s.command) (reading b).steps

-- of a session's bytes: any session without refusal 1
abbrev pub SessionDemand3 : List ℕ → Type 0
SessionDemand3 b = opens b ≡ true → Demand3 (header b) (session_commands b)
