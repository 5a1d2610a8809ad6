-- "Why the check failed": document 02 [4], as what a verdict says of the nodes and the saves. It follows from the definitions
-- (proofs/Causes.antt).
use Rattle.std.specs.Prelude.{ℕ, ◌<◌, ◌≡◌, true, false, ◌&&◌}
use Rattle.rules.specs.Bytes.{Take}
use Rattle.rules.specs.State.{State, has_copy, claims}
use Rattle.rules.specs.Steps.{at_front, holds, x_on, owns, next_is_last, fails_at, finds_invalid, Rule, x_granted, x_waiting, counter_behind, Cause, Verdict, valid, invalid, took, answered, step}

-- what a rule says of sheet k, which save t claims
abbrev pub Says : State → (t k : ℕ) → Rule → Type 0
Says s t k x_granted = at_front (x_on s.claim k) (s.queue k) ≡ true
Says s t k x_waiting = (at_front (x_on s.claim k) (s.queue k) ≡ false) × (holds (x_on s.claim k) (s.queue k) ≡ true)
Says s t k counter_behind = (holds (x_on s.claim k) (s.queue k) ≡ false) × ((has_copy (s.mark t k) ≡ true) × ((s.copy t k).wct < (s.sheet k).wct))

-- "the first cause it met: sheet and rule": a claimed sheet of this node, the rule there, and no lower sheet of this node fails
pub record FirstCause (s : State) (n t : ℕ) (c : Cause) : Type 0 where
  pub sheet : c.sheet < s.header.sheets
  pub owned : owns s n c.sheet ≡ true
  pub claimed : claims (s.claim t c.sheet) ≡ true
  pub rule : Says s t c.sheet c.rule
  pub first : (k : ℕ) → k < c.sheet → owns s n k ≡ true → fails_at s t k ≡ false

-- a cause is there exactly where the place is the save's last one and the node finds the save invalid
abbrev pub Explains : State → (n t : ℕ) → Verdict → Type 0
Explains s n t valid = (next_is_last s n && finds_invalid s n t) ≡ false
Explains s n t (invalid c) = ((next_is_last s n && finds_invalid s n t) ≡ true) × FirstCause s n t c

-- every TAKE's verdict is explained so, in every state, and no other verdict is
pub record WhyFailed : Type 0 where
  pub explained : (s : State) (n t : ℕ) (v : Verdict) → (step s (Take n)).result ≡ answered (took t v) → Explains s n t v
  pub no_other : (s : State) (n t : ℕ) (v u : Verdict) → Explains s n t v → Explains s n t u → v ≡ u
