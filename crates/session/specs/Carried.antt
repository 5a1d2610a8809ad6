-- What a run over session b leaves.
use Rattle.std.specs.Prelude.{ℕ, ◌+◌, ◌-◌, ◌<◌, ◌≤◌, ◌≡◌, cond, List, [], ◌++◌, drop, length, ltb, Result, Ok, Err}
use Rattle.rules.specs.Sizes.{min_buffer}
use Rattle.rules.specs.Report.{Filled, in_front, state_lines}
use Rattle.rules.proofs.Sessions.{Final, session_final}
use Rattle.wire.specs.Meaning.{front_in, shown_in}
use Rattle.state.specs.Slices.{Slices, slices}
use Rattle.state.specs.View.{shown}
use Rattle.state.specs.Fit.{Ready, Fit}
use Rattle.tally.specs.Figures.{figures}
use Rattle.refusals.specs.declared.Refused.{Refused}
use Rattle.session.specs.declared.Walked.{Walked}
use Rattle.session.specs.declared.Ended.{Ended}
use Rattle.session.specs.Meaning.{stop_at, stop_line, last_of, reply_in, NearLast}

-- a refusal stands within n bytes
abbrev pub Within : ℕ → Result Unit Refused → Type 0
Within n (Ok _) = Unit {0}
Within n (Err r) = r.place < n

-- so many bytes are shown of what stands there, and they lie in the session
abbrev pub ShownOf : List ℕ → Result Unit Refused → ℕ → Type 0
ShownOf b (Ok _) k = k ≡ 0
ShownOf b (Err r) k = (k ≡ shown_in (front_in (drop r.place b)) (length b - r.place)) × (r.place + k ≤ length b)

-- the slices and what the walk comes to, as the rules have it
abbrev pub final_of : List ℕ → ℕ → Slices → Walked → Final
final_of b m x r = record { state = shown m x (figures r.tally); stop = stop_at b r.stop; last = last_of (reply_in r.last) }

pub record Carried (b : List ℕ) (m : ℕ) (x : Slices) (r : Walked) : Type 0 where
  pub same : session_final b ≡ final_of b m x r
  pub ready : Ready m x.bytes x.sets x.queues
  pub fit : Fit m x
  pub within : Within (length b) r.stop
  pub near : NearLast (reply_in r.last)

-- ---- The report

-- a text at the front of a buffer; one that is too short is left alone
abbrev pub filled : (text buffer : List ℕ) → Filled
filled text buffer = cond (ltb (length buffer) min_buffer) (record { size = 0; buffer = buffer }) (in_front text buffer)

-- the state's lines and the stop's
abbrev pub lines_of : ℕ → (b q w : List ℕ) → Walked → List ℕ
lines_of m b q w r = state_lines (shown m (slices b [] q [] [] w) (figures r.tally)) ++ stop_line r.stop

-- ---- The answer

-- where the run stops, with what is shown of it, and the last accepted command's answer
pub record Answered (b : List ℕ) (r : Ended) : Type 0 where
  pub stops : (session_final b).stop ≡ stop_at b r.stop
  pub shown : ShownOf b r.stop r.shown
  pub replies : (session_final b).last ≡ last_of r.last
  pub within : Within (length b) r.stop
  pub near : NearLast r.last
