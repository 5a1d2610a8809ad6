-- When the counter rises: all that the proofs know of a store's WCT.
use Prim.Native.Nat.{ℕ, suc, ◌+◌, ◌≤◌}
use mathlib.Core.Path.{◌≡◌}
use mathlib.Core.Bool.{Bool, true, false, not, cond}
use native.Mathlib.Omega.{arith}
use lib.Dec.{eqb}
use borrow.Author.Tests.{eqb-true}
use Rattle.rules.specs.State.{Sheet, store}
use Rattle.rules.proofs.Table.{bool}

module _ (c : Sheet) (v : ℕ) where
  -- by 1 where the content is another than the one there, and else by 0
  pub store_adds : (store c v).wct ≡ c.wct + cond (not (eqb v c.content)) 1 0
  store_adds = bool (eqb v c.content) (λ e. rw e (omega arith)) (λ e. rw e (omega arith))

  pub store_rises : c.wct ≤ (store c v).wct
  store_rises = omega (arith, store_adds)

  pub store_most : (store c v).wct ≤ suc c.wct
  store_most = rw store_adds (most (eqb v c.content))
    where
      most : (b : Bool) → c.wct + cond (not b) 1 0 ≤ suc c.wct
      most true = omega arith
      most false = omega arith

  -- a counter that has not risen shows the content that it showed
  pub store_same : (n : ℕ) → n ≤ c.wct → n ≡ (store c v).wct → (n ≡ c.wct) × (v ≡ c.content)
  store_same n o e = bool (eqb v c.content)
      (λ y. let z : n ≡ c.wct = rw y at e in (z, eqb-true v c.content y))
      (λ y. let z : n ≡ suc c.wct = rw y at e in absurd (too_old o z))
    where
      too_old : {x y : ℕ} → x ≤ y → x ≡ suc y → ⊥
      too_old o z = omega arith
