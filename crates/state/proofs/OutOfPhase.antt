-- The rules' tests of a save's phase, in turn, by the phase's number: one number stands for the refusals, and `rest` for what is asked after them.
use Prim.Native.Nat.{ℕ, zero, suc}
use mathlib.Core.Path.{◌≡◌, refl, ◌∙◌}
use mathlib.Core.Bool.{Bool, true, false, not, ◌||◌, cond}
use native.Mathlib.Omega.{arith}
use lib.Dec.{eqb, leb}
use borrow.Author.Tests.{ne_eqb, le-leb}
use Rattle.rules.specs.State.{Phase, unused, committed, dropped, is_unused, is_submitted, running, over}
use Rattle.rules.specs.Steps.{Checked, refuse}
use Rattle.rules.proofs.Table.{bool}
use Rattle.state.specs.View.{as_phase, out_of_phase}
use Rattle.state.proofs.Codes.{first_code, submitted_code, second_code}

module _ (p : ℕ) where
  -- 5 and more is dropped
  far : eqb (suc (suc (suc (suc (suc p))))) 0 ≡ false
  far = ne_eqb (suc (suc (suc (suc (suc p))))) 0 (λ e. omega arith)

  past : leb 4 (suc (suc (suc (suc (suc p))))) ≡ true
  past = le-leb 4 (suc (suc (suc (suc (suc p))))) (omega arith)

-- it is a refusal
pub out_refuses : (p : ℕ) → eqb (out_of_phase p) 0 ≡ false
unfolding out_of_phase
out_refuses p = bool (eqb p 0) (λ u. rw u) (λ u. bool (leb 4 p) (λ o. rw (u, o)) (λ o. rw (u, o)))

module _ (rest : Checked) where
  pub unused_tests : (p : ℕ) → cond (not (over (as_phase p))) (cond (is_unused (as_phase p)) rest (refuse 5)) (refuse 14) ≡ cond (eqb p 0) rest (refuse (out_of_phase p))
  unfolding out_of_phase
  unused_tests zero = refl
  unused_tests (suc zero) = refl
  unused_tests (suc (suc zero)) = refl
  unused_tests (suc (suc (suc zero))) = refl
  unused_tests (suc (suc (suc (suc zero)))) = refl
  unused_tests (suc (suc (suc (suc (suc p))))) = rw (far p, past p)

  -- a test that no unused save passes, and none that is over
  between : (f : Phase → Bool) → f unused ≡ false → f committed ≡ false → f dropped ≡ false → (p : ℕ)
      → cond (not (is_unused (as_phase p))) (cond (not (over (as_phase p))) (cond (f (as_phase p)) rest (refuse 5)) (refuse 14)) (refuse 13)
      ≡ cond (f (as_phase p)) rest (refuse (out_of_phase p))
  unfolding out_of_phase
  between f u c d zero = rw u
  between f u c d (suc zero) = refl
  between f u c d (suc (suc zero)) = refl
  between f u c d (suc (suc (suc zero))) = refl
  between f u c d (suc (suc (suc (suc zero)))) = rw c
  between f u c d (suc (suc (suc (suc (suc p))))) = rw (d, far p, past p)

  pub running_tests : (p : ℕ)
      → cond (not (is_unused (as_phase p))) (cond (not (over (as_phase p))) (cond (running (as_phase p)) rest (refuse 5)) (refuse 14)) (refuse 13)
      ≡ cond (eqb p 1 || eqb p 3) rest (refuse (out_of_phase p))
  running_tests p = between running refl refl refl p ∙ rw (first_code p, second_code p)

  pub submitted_tests : (p : ℕ)
      → cond (not (is_unused (as_phase p))) (cond (not (over (as_phase p))) (cond (is_submitted (as_phase p)) rest (refuse 5)) (refuse 14)) (refuse 13)
      ≡ cond (eqb p 2) rest (refuse (out_of_phase p))
  submitted_tests p = between is_submitted refl refl refl p ∙ rw (submitted_code p)

  pub over_tests : (p : ℕ) → cond (not (is_unused (as_phase p))) (cond (over (as_phase p)) rest (refuse 5)) (refuse 13) ≡ cond (leb 4 p) rest (refuse (out_of_phase p))
  unfolding out_of_phase
  over_tests zero = refl
  over_tests (suc zero) = refl
  over_tests (suc (suc zero)) = refl
  over_tests (suc (suc (suc zero))) = refl
  over_tests (suc (suc (suc (suc zero)))) = refl
  over_tests (suc (suc (suc (suc (suc p))))) = rw (past p)
