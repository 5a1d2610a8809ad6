-- "Which phase was wrong", as the exam desk's table: what a command is refused with by the phase of its save. It follows from the tests
-- (proofs/WhichPhase.antt).
use Rattle.std.specs.Prelude.{ℕ, ◌≡◌, ◌||◌, cond, ◌≢◌, eqb}
use Rattle.rules.specs.Bytes.{Command, Begin, Read, Write, Submit, Take, Decide, Apply, GiveUp}
use Rattle.rules.specs.State.{Phase, unused, first, submitted, second, committed, dropped, State}
use Rattle.rules.specs.Steps.{Checked, pass, refuse, check}

-- a row of the table, by its columns
abbrev pub by : (u f s r c d : ℕ) → Phase → ℕ
by u f s r c d unused = u
by u f s r c d first = f
by u f s r c d submitted = s
by u f s r c d second = r
by u f s r c d committed = c
by u f s r c d dropped = d

-- Eight commands by the six phases, in the order unused, first run, submitted, second run, committed, dropped; 0 where the phase allows
-- the command. TAKE names no save.
abbrev pub phase_number : State → Command → ℕ
phase_number s (Begin t) = by 0 5 5 5 14 14 (s.phase t)
phase_number s (Read t k) = by 13 0 5 0 14 14 (s.phase t)
phase_number s (Write t k v) = by 13 0 5 0 14 14 (s.phase t)
phase_number s (Submit t) = by 13 0 5 0 14 14 (s.phase t)
phase_number s (Take n) = 0
phase_number s (Decide t) = by 13 5 0 5 14 14 (s.phase t)
phase_number s (Apply n t) = by 13 5 5 5 0 0 (s.phase t)
phase_number s (GiveUp t) = by 13 0 5 0 14 14 (s.phase t)

-- a refusal that speaks of the phase
abbrev pub told : Checked → ℕ
told pass = 0
told (refuse n) = cond (eqb n 13 || eqb n 14 || eqb n 5) n 0

-- Unless an operand is out of range, 13, 14 and 5 are given where the table has them and nowhere else.
abbrev pub Tabled : Type 0
Tabled = (s : State) (c : Command) → check s c ≢ refuse 4 → told (check s c) ≡ phase_number s c
