-- A save's copies cleared, block by block.
use Prim.Native.Nat.{ℕ, ◌+◌, ◌*◌, ◌≤◌, ◌<◌}
use mathlib.Core.Path.{◌≡◌, ◌∙◌}
use mathlib.Core.List.{List}
use native.Mathlib.Omega.{arith}
use lib.ListN.{set}
use Rattle.rules.proofs.Table.{same?}
use Rattle.sets.specs.Bit.{stride, blocks}
use Rattle.state.specs.View.{COPIED, WRITTEN}
use Rattle.state.proofs.Rows.{in_reach, Pair, paired}
use Rattle.decides.specs.Settling.{Clears, Cleared}

-- one block more, by the code's own number of blocks
module _ {m t n j : ℕ} {s₀ s : List ℕ} (f : Clears m t s₀) (en : n ≡ blocks m) (h : j < n) (g : Cleared j t s₀ s) where
  pub cleared_on : {s₁ s₂ : List ℕ} → s₁ ≡ set s (COPIED + t + stride * j) 0 → s₂ ≡ set s₁ (WRITTEN + t + stride * j) 0 → Cleared (j + 1) t s₀ s₂
  cleared_on e₁ e₂ = rw (e₂, e₁) (record {
    long = p.long ∙ g.long;
    copied = λ k l. same? k j
        (λ e. rw e p.first)
        (λ d. p.rest (COPIED + t) k (omega (arith, t32)) (λ _. d) (λ e _. omega arith) ∙ g.copied k (omega arith));
    written = λ k l. same? k j
        (λ e. rw e p.second)
        (λ d. p.rest (WRITTEN + t) k (omega (arith, t32)) (λ e _. omega arith) (λ _. d) ∙ g.written k (omega arith));
    rest = λ i k l c d. p.rest i k l (λ e. absurd (c e)) (λ e. absurd (d e)) ∙ g.rest i k l c d;
  })
    where
      t32 : t < 32
      t32 = f.save

      p : Pair (COPIED + t) (WRITTEN + t) j 0 0 s (set (set s (COPIED + t + stride * j) 0) (WRITTEN + t + stride * j) 0)
      p = paired s (COPIED + t) (WRITTEN + t) j 0 0 (omega arith) (omega (arith, t32)) (rw g.long (in_reach m en h s₀ f.sets (WRITTEN + t) (omega (arith, t32))))

pub cleared_end : (m : ℕ) {t n j : ℕ} {s₀ s : List ℕ} → n ≡ blocks m → j ≤ n → n ≤ j → Cleared j t s₀ s → Cleared (blocks m) t s₀ s
cleared_end m {j = j} en a b g = let e : j ≡ blocks m = omega arith in rw e at g
