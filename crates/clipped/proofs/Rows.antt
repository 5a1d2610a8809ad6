-- Texts one after the other, as a loop writes them: one more for each number, in room for as many.
use mathlib.Core.Path.{◌≡◌, refl, ap, ◌∙◌}
use mathlib.Core.List.{List, [], ◌∷◌, ◌++◌, append-nil, append_assoc}
use Prim.Native.Nat.{ℕ, ◌+◌, ◌*◌}
use native.Mathlib.Numerals.{add-one}
use native.Mathlib.Omega.{arith}
use Rattle.rules.specs.Showing.{rising, each}
use Rattle.text.specs.declared.Writer.{Writer}
use Rattle.text.specs.Writes.{Writes}
use Rattle.text.proofs.Writing.{writes_none, writes_as, writes_next}

-- ---- For the numbers below a bound

module _ (f : ℕ → List ℕ) where
  pub rising_none : (w : Writer) (r : ℕ) → Writes w w (rising f 0) (0 * r)
  unfolding rising
  rising_none w r = writes_as refl (omega arith) (writes_none w)

  pub rising_more : {w v z : Writer} (r i : ℕ) → Writes w v (rising f i) (i * r) → Writes v z (f i) r → Writes w z (rising f (i + 1)) ((i + 1) * r)
  unfolding rising
  rising_more r i p q = writes_next (rw (add-one i)) p q (omega arith)

-- ---- For the numbers of a list

module _ (f : ℕ → List ℕ) where
  pub each_then : (us vs : List ℕ) → each f us ++ each f vs ≡ each f (us ++ vs)
  unfolding each
  each_then [] vs = refl
  each_then (u ∷ us) vs = append_assoc (f u) (each f us) (each f vs) ∙ ap (λ t. f u ++ t) (each_then us vs)

  pub each_one : (u : ℕ) → each f (u ∷ []) ≡ f u
  unfolding each
  each_one u = append-nil (f u)
