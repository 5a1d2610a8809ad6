-- A save's new claim, block by block.
use Prim.Native.Nat.{ℕ, ◌+◌, ◌*◌, ◌≤◌, ◌<◌}
use mathlib.Core.Path.{◌≡◌, ◌∙◌}
use mathlib.Core.Bool.{◌||◌}
use mathlib.Core.List.{List}
use native.Mathlib.Omega.{arith}
use lib.ListN.{length, set}
use Rattle.rules.proofs.Table.{same?}
use Rattle.sets.specs.Bit.{bit, word, stride, blocks}
use Rattle.state.specs.View.{COPIED, WRITTEN, CLAIM, CLAIM_X, rows}
use Rattle.state.proofs.Rows.{Pair, paired}
use Rattle.joining.specs.Joining.{Claimed}

-- one block more, by the code's own words
module _ (t j : ℕ) (t32 : t < 32) (s₀ s : List ℕ) (o : Claimed j t s₀ s) (fits : CLAIM_X + t + stride * j < length s) {a p x w : ℕ} (c d : ℕ)
    (ea : a ≡ word s (CLAIM + t) j) (ep : p ≡ word s (COPIED + t) j) (ec : (i : ℕ) → bit c i ≡ (bit a i || bit p i))
    (ex : x ≡ word s (CLAIM_X + t) j) (ew : w ≡ word s (WRITTEN + t) j) (ed : (i : ℕ) → bit d i ≡ (bit x i || bit w i)) where
  abbrev s₂ : List ℕ
  s₂ = set (set s (CLAIM + t + stride * j) c) (CLAIM_X + t + stride * j) d

  now : Pair (CLAIM + t) (CLAIM_X + t) j c d s s₂
  now = paired s (CLAIM + t) (CLAIM_X + t) j c d (omega arith) (omega arith) fits

  -- the words as they were at first
  first : (r : ℕ) → r + t < rows → word s (r + t) j ≡ word s₀ (r + t) j
  first r h = o.later (r + t) j h (omega arith)

  pub claimed_on : Claimed (j + 1) t s₀ s₂
  claimed_on = record {
    long = now.long ∙ o.long;
    claim = λ k i h. same? k j
        (λ e. rw (e, now.first, ec i, ea, ep, first CLAIM (omega arith), first COPIED (omega arith)))
        (λ z. rw (now.rest (CLAIM + t) k (omega arith) (λ _. z) (λ e _. omega arith)) (o.claim k i (omega arith)));
    claim_x = λ k i h. same? k j
        (λ e. rw (e, now.second, ed i, ex, ew, first CLAIM_X (omega arith), first WRITTEN (omega arith)))
        (λ z. rw (now.rest (CLAIM_X + t) k (omega arith) (λ e _. omega arith) (λ _. z)) (o.claim_x k i (omega arith)));
    later = λ i k h l. now.rest i k h (λ _ e. omega arith) (λ _ e. omega arith) ∙ o.later i k h (omega arith);
    rest = λ i k h e f. now.rest i k h (λ q. absurd (e q)) (λ q. absurd (f q)) ∙ o.rest i k h e f;
  }

-- the last block is done
pub claimed_all : (m : ℕ) {t n j : ℕ} {s₀ s : List ℕ} → n ≡ blocks m → j ≤ n → n ≤ j → Claimed j t s₀ s → Claimed (blocks m) t s₀ s
claimed_all m {j = j} e a b o = let z : j ≡ blocks m = omega arith in rw z at o
