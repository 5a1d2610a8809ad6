-- Running, reading and writing a session (request 2) agree on 1 to 4. It follows from the definitions (proofs/Agreeing.antt, proofs/AgreeingSteps.antt).
use Rattle.std.specs.Prelude.{ℕ, ◌^◌, ◌≤◌, ◌<◌, ◌≡◌, Bool, true, ◌&&◌, cond, ◌⊎◌, ◌≢◌, List, [], ◌∷◌, length, get_or, drop, eqb, leb, ltb}
use Rattle.std.proofs.Math.Option.{Option, none, some}
use Rattle.rules.specs.Bytes.{Operand, width, Form, Stop, ended, stopped}
use Rattle.rules.specs.State.{State}
use Rattle.rules.specs.Steps.{Checked, pass, refuse, check}
use Rattle.rules.specs.Calls.{stop}
use Rattle.rules.specs.Writing.{Heading, Instruction, slots, zeros, form, check_step, Refusal, at, bytes, write, session, refuses, read, Bytes}

-- ---- Reading and running

-- a run that stopped there, or before with a refusal that reading does not give
abbrev pub StopsBy : Stop → Refusal → Type 0
StopsBy ended r = ⊥
StopsBy (stopped p n shown) r = ((p ≡ r.place) × (n ≡ r.number)) ⊎ ((p < r.place) × (4 < n))

-- Where the run stops with one of 1 to 4, the reading refuses with it at the same offset. Where the reading gives a session, the run stops with none of
-- them. Where it refuses, the run stops there with the same number, or before with another one.
pub record Agrees (b : List ℕ) : Type 0 where
  pub run_read : (p n shown : ℕ) → stop b ≡ stopped p n shown → n ≤ 4 → read b ≡ refuses (at p n)
  pub none_of_them : (g : Heading) (is : List Instruction) → read b ≡ session g is → (p n shown : ℕ) → n ≤ 4 → stop b ≢ stopped p n shown
  pub read_run : (r : Refusal) → read b ≡ refuses r → StopsBy (stop b) r

-- of every session of bytes
abbrev pub AlwaysAgrees : Type 0
AlwaysAgrees = (b : List ℕ) → Bytes b → Agrees b

-- ---- Writing and running

-- what a run in state s makes of a step: 2 where no command has its number, else what the command is refused with
abbrev pub run_check : State → Option Form → List ℕ → Checked
run_check s none vs = refuse 2
run_check s (some f) vs = check s (f.command vs)

-- its phase apart: of the refusals those up to 4
abbrev pub up_to_four : Checked → Checked
up_to_four pass = pass
up_to_four (refuse n) = cond (leb n 4) (refuse n) pass

-- a step that bytes can hold: three numbers, each in its operand's bytes, 0 behind the last
abbrev pub in_widths : List Operand → List ℕ → Bool
in_widths [] vs = zeros vs
in_widths (o ∷ os) vs = ltb (get_or vs 0 0) (256 ^ width o) && in_widths os (drop 1 vs)

abbrev pub whole_step : Option Form → List ℕ → Bool
whole_step none vs = true
whole_step (some f) vs = eqb (length vs) slots && in_widths f.operands vs

-- A step is written exactly where, its phase apart, a run would not give 2 or 4, and is refused with the same number: in every state, so whatever the
-- phases. (3 is of bytes that are missing, which a written step has.)
abbrev pub WritesAsRun : Type 0
WritesAsRun = (s : State) (i : Instruction) → whole_step (form i.number) i.operands ≡ true
    → check_step s.header.nodes s.header.sheets i ≡ up_to_four (run_check s (form i.number) i.operands)

-- So what was written is never stopped by 1 to 4.
abbrev pub WrittenRuns : Heading → List Instruction → Type 0
WrittenRuns g is = (b : List ℕ) → write g is ≡ bytes b → (p n shown : ℕ) → n ≤ 4 → stop b ≢ stopped p n shown
