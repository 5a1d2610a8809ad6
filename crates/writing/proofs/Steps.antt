-- What one step earns.
use Prim.Native.Nat.{ℕ, suc, ◌≤◌, ◌<◌}
use mathlib.Core.Path.{◌≡◌, ◌∙◌}
use mathlib.Core.Bool.{Bool, true, false, ◌&&◌, cond, and_assoc}
use mathlib.Core.List.{List}
use native.Mathlib.Omega.{arith}
use borrow.Author.Tests.{lt-ltb, le-ltb, ne_eqb}
use lib.Dec.{ltb}
use lib.ListN.{length}
use Rattle.rules.specs.Steps.{pass, refuse}
use Rattle.rules.specs.Writing.{check_step}
use Rattle.forms.specs.Slots.{step, slot, operands, is_present, Known, slot_limit}
use Rattle.forms.proofs.Slots.{check_known, operands_fit_by, unknown_form, known_form}

-- whether the first two operands fit
module _ (n m c x y z : ℕ) (k : Known c) (f : Bool) (e : f ≡ ltb x (slot_limit n m (slot (operands c) 0)) && ltb y (slot_limit n m (slot (operands c) 1))) where
  known : check_step n m (step c x y z) ≡ cond (f && ltb z (slot_limit n m (slot (operands c) 2))) pass (refuse 4)
  known = check_known n m c x y z k ∙ rw (operands_fit_by n m x y z c, e) (rw and_assoc)

  pub two_bad : f ≡ false → check_step n m (step c x y z) ≡ refuse 4
  two_bad q = rw (known, q)

  module _ (q : f ≡ true) (t : ℕ) (l : slot_limit n m (slot (operands c) 2) ≡ suc t) where
    pub third_bad : t < z → check_step n m (step c x y z) ≡ refuse 4
    third_bad h = rw (known, q, l, le-ltb z (suc t) h)

    pub none_bad : z ≤ t → check_step n m (step c x y z) ≡ pass
    none_bad h = rw (known, q, l, lt-ltb z (suc t) (omega arith))

-- ---- A step cut short

module _ (n m c : ℕ) (vs : List ℕ) where
  pub cut_unknown : is_present (slot (operands c) 0) ≡ false → check_step n m (record { number = c; operands = vs }) ≡ refuse 2
  cut_unknown e = rw (unknown_form c e)

  pub cut_known : Known c → length vs < 3 → check_step n m (record { number = c; operands = vs }) ≡ refuse 4
  cut_known k l = known_form c k (λ f q. rw (q, ne_eqb (length vs) 3 (λ s. omega arith)))
