-- The calls on a session: where it stops, its last command's answer, and the part that is shown.
use Rattle.std.specs.Prelude.{ℕ, Bool, true, false, List, [], ◌∷◌, length, get_or, take, drop}
use Rattle.rules.specs.Bytes.{header, Take, Step, Stop, ended, stopped, opens, reading}
use Rattle.rules.specs.State.{fresh}
use Rattle.rules.specs.Steps.{Answer, Checked, pass, refuse, Event, Ran, run}
use Rattle.rules.specs.Demand3.{session_commands}

-- the commands of a session from new nodes, up to the first refusal
abbrev pub session_run : List ℕ → Ran
session_run b = run (fresh (header b)) (session_commands b)

-- ---- Where a session stops

abbrev pub step_at : List Step → ℕ → Step
step_at steps i = get_or steps i (record { offset = 0; size = 0; command = Take 0 })

-- the refused command is the one after the accepted ones; where all are accepted, reading may have stopped
abbrev pub stop_by : Checked → Step → Stop → Stop
stop_by pass s read = read
stop_by (refuse n) s read = stopped s.offset n s.size

abbrev pub stop_if : (opens : Bool) → List ℕ → Stop
stop_if true b = stop_by (session_run b).end (step_at (reading b).steps (length (session_run b).events)) (reading b).stop
stop_if false b = stopped 0 1 0

-- refusal 1 has offset 0 and shows nothing
unfoldable pub stop : List ℕ → Stop
stop b = stop_if (opens b) b

-- ---- The answer of a call on a session

-- "A call on a session gives its last command's answer; a stopped session gives its refusal, one without commands says so."
pub data Reply : Type 0 where
  no_command : Reply
  answers : Answer → Reply
  refusal : (offset number : ℕ) → Reply

abbrev pub last_of : Reply → List Event → Reply
last_of r [] = r
last_of r (e ∷ es) = last_of (answers e.answer) es

abbrev pub reply_by : Stop → List Event → Reply
reply_by ended es = last_of no_command es
reply_by (stopped p n shown) es = refusal p n

unfoldable pub reply : List ℕ → Reply
reply b = reply_by (stop b) (session_run b).events

-- ---- The part shown

-- where the part starts and how long it is; for a session without refusal it is empty at the end
pub record Part : Type 0 where
  pub from : ℕ
  pub size : ℕ

abbrev pub part_by : Stop → List ℕ → Part
part_by ended b = record { from = length b; size = 0 }
part_by (stopped p n shown) b = record { from = p; size = shown }

unfoldable pub part : List ℕ → Part
part b = part_by (stop b) b

-- a part of a session, as bytes
abbrev pub part_of : Part → List ℕ → List ℕ
part_of p b = take p.size (drop p.from b)

-- "the part of the session holding it, from its first byte, is handed back"
abbrev pub shown : List ℕ → List ℕ
shown b = part_of (part b) b
