-- The table of serial runs, by one computation over the definitions.
use Prim.Native.Nat.{ℕ}
use mathlib.Core.Path.{◌≡◌, refl}
use mathlib.Core.Bool.{Bool, true}
use mathlib.Core.List.{List, [], ◌∷◌, map}
use mathlib.Core.Option.{Option, some}
use Rattle.rules.specs.Table.{upd, upd2, row, all, any, first_below}
use Rattle.rules.specs.Bytes.{Stop, ended, header, read_from}
use Rattle.rules.specs.State.{Sheet, fresh, wide_by, by_last}
use Rattle.rules.specs.Steps.{x_on, run}
use Rattle.rules.specs.Serial.{no_history, heard, turns, serial_shows, serial_leaves, first_reads}
use Rattle.rules.specs.Demand3.{after, fed, told, first_answers, session_commands}
use Rattle.rules.specs.Calls.{stop}
use Rattle.rules.specs.Cases.{hex}
use Rattle.rules.specs.SerialCases.{Shown, SerialCase, serial_cases}

-- what a case states of a session
record Figures : Type 0 where
  ends : Stop
  leaves : List Sheet
  holds : List Sheet
  commits : List Bool
  shows : List ℕ
  answered : List (Option ℕ)

abbrev figures : List ℕ → List Shown → Figures
figures b reads = record {
  ends = stop b;
  leaves = serial_leaves (fed (header b) (session_commands b)) 0 ∷ serial_leaves (fed (header b) (session_commands b)) 1 ∷ [];
  holds = (after (header b) (session_commands b)).sheet 0 ∷ (after (header b) (session_commands b)).sheet 1 ∷ [];
  commits = map (λ (r : Shown). (told (header b) (session_commands b)).committed r.save) reads;
  shows = map (λ (r : Shown). serial_shows (fed (header b) (session_commands b)) r.save r.sheet) reads;
  answered = map (λ (r : Shown). first_answers (header b) (session_commands b) r.save r.sheet) reads;
}

abbrev computed : SerialCase → Figures
computed c = figures (hex c.session) c.reads

abbrev stated : SerialCase → Figures
stated c = record {
  ends = ended;
  leaves = c.leaves;
  holds = c.holds;
  commits = map (λ (r : Shown). true) c.reads;
  shows = map (λ (r : Shown). r.content) c.reads;
  answered = map (λ (r : Shown). some r.content) c.reads;
}

pub serial : map computed serial_cases ≡ map stated serial_cases
unfolding upd upd2 row all any first_below wide_by by_last read_from fresh x_on run stop no_history heard turns first_reads
serial = refl
