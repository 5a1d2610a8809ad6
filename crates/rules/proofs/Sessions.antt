-- A session from any point on: what it comes to, by one command at a time. The run's loop goes by these laws.
use Prim.Native.Nat.{ℕ}
use mathlib.Core.Path.{◌≡◌, refl}
use mathlib.Core.Bool.{true, false}
use mathlib.Core.List.{List, [], ◌++◌, map}
use lib.ListN.{length}
use Rattle.rules.specs.Bytes.{header, Command, Step, Stop, ended, stopped, Reading, more, opens, reading}
use Rattle.rules.specs.State.{State, fresh}
use Rattle.rules.specs.Steps.{check, pass, refuse, effect, answer, Ran, run}
use Rattle.rules.specs.Calls.{stop_by, step_at, stop, Reply, no_command, answers, refusal, last_of, reply_by, reply}
use Rattle.rules.specs.Report.{state_lines, stop_line, report}
use Rattle.rules.proofs.Accepted.{run_accepts, run_refuses, header_after}
use Rattle.rules.proofs.Reached.{Reached, reached_fresh, reached_run}

-- the state at the end, the stop, and the last accepted command's answer
pub record Final : Type 0 where
  pub state : State
  pub stop : Stop
  pub last : Reply

abbrev pub commands_of : Reading → List Command
commands_of r = map (λ (s : Step). s.command) r.steps

abbrev pub final_by : Ran → Reply → Reading → Final
final_by ran last r = record { state = ran.state; stop = stop_by ran.end (step_at r.steps (length ran.events)) r.stop; last = last_of last ran.events }

-- from state s on, after a command with answer `last`, with reading r to come
unfoldable pub final : State → Reply → Reading → Final
final s last r = final_by (run s (commands_of r)) last r

-- ---- By one command at a time

pub final_ends : (s : State) (last : Reply) (stop : Stop) → final s last (record { steps = []; stop = stop }) ≡ record { state = s; stop = stop; last = last }
unfolding final run
final_ends s last stop = refl

module _ (s : State) (last : Reply) (st : Step) (r : Reading) where
  pub final_accepts : check s st.command ≡ pass → final s last (more st r) ≡ final (effect s st.command) (answers (answer s st.command)) r
  unfolding final
  final_accepts e = rw (run_accepts s st.command (commands_of r) e)

  pub final_refuses : (n : ℕ) → check s st.command ≡ refuse n → final s last (more st r) ≡ record { state = s; stop = stopped st.offset n st.size; last = last }
  unfolding final
  final_refuses n e = rw (run_refuses s st.command (commands_of r) n e)

-- ---- A whole session

abbrev pub session_final : List ℕ → Final
session_final b = final (fresh (header b)) no_command (reading b)

abbrev pub reply_of : Stop → Reply → Reply
reply_of ended last = last
reply_of (stopped p n shown) last = refusal p n

module _ (b : List ℕ) (o : opens b ≡ true) where
  pub stop_final : stop b ≡ (session_final b).stop
  unfolding stop final
  stop_final = rw o

  pub reply_final : reply b ≡ reply_of (session_final b).stop (session_final b).last
  unfolding reply final
  reply_final = rw stop_final (go (session_final b).stop)
    where
      go : (x : Stop) → reply_by x (run (fresh (header b)) (commands_of (reading b))).events ≡ reply_of x (last_of no_command (run (fresh (header b)) (commands_of (reading b))).events)
      go ended = refl
      go (stopped p n shown) = refl

  pub report_final : report b ≡ state_lines (session_final b).state ++ stop_line (session_final b).stop
  unfolding report final
  report_final = rw (o, stop_final)

-- what holds at a session's end
pub final_reached : (b : List ℕ) → Reached (session_final b).state
unfolding final
final_reached b = reached_run (commands_of (reading b)) (fresh (header b)) (reached_fresh (header b))

pub final_header : (b : List ℕ) → (session_final b).state.header ≡ header b
unfolding final
final_header b = header_after (header b) (commands_of (reading b))

-- a session that earns refusal 1
module _ (b : List ℕ) (o : opens b ≡ false) where
  pub stop_unopened : stop b ≡ stopped 0 1 0
  unfolding stop
  stop_unopened = rw o

  pub reply_unopened : reply b ≡ refusal 0 1
  unfolding reply
  reply_unopened = rw stop_unopened

  pub report_unopened : report b ≡ stop_line (stopped 0 1 0)
  unfolding report
  report_unopened = rw (o, stop_unopened)
