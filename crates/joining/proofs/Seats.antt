-- A place given up, and one taken.
use Prim.Native.Nat.{ℕ, ◌+◌, ◌≤◌, ◌<◌}
use mathlib.Core.Path.{◌≡◌, ◌∙◌}
use mathlib.Core.Bool.{not, ◌&&◌, ◌||◌}
use mathlib.Core.Logic.{◌≢◌}
use mathlib.Core.List.{List}
use native.Mathlib.Omega.{arith}
use lib.ListN.{length, get_or, set, length-set}
use lib.Seq.{get_or-set_same, get_or-set_other}
use lib.Dec.{eqb}
use Rattle.rules.proofs.Table.{same?}
use Rattle.sets.specs.Bit.{bit}
use Rattle.state.specs.View.{placed, PHASE, FAILED, ORDER, PLACE, PLACED, BEFORE, JOINED, QUEUE}
use Rattle.joining.specs.Joining.{Placing, waiting, Ahead, Freed}

-- ---- Given up

pub ahead_on : (t u : ℕ) (q₀ q : List ℕ) (x : ℕ) → Ahead u t q₀ q → BEFORE + u < length q → ((v : ℕ) → bit x v ≡ (bit (get_or q (BEFORE + u) 0) v && not (eqb v t)))
    → Ahead (u + 1) t q₀ (set q (BEFORE + u) x)
ahead_on t u q₀ q x o h e = record {
  long = length-set q (BEFORE + u) x ∙ o.long;
  before = λ w v l. same? w u
      (λ z. rw (z, get_or-set_same q (BEFORE + u) x 0 h, e v, o.rest (BEFORE + u) (λ k g y. past g (left y))))
      (λ z. rw (get_or-set_other q (BEFORE + u) (BEFORE + w) x 0 (λ y. z (left y))) (o.before w v (omega arith)));
  rest = λ i d. get_or-set_other q (BEFORE + u) i x 0 (d u (omega arith)) ∙ o.rest i (λ k g. d k (omega arith));
}
  where
    left : {a b : ℕ} → BEFORE + a ≡ BEFORE + b → a ≡ b
    left y = omega arith

    past : {k : ℕ} → k < u → u ≡ k → ⊥
    past g y = omega arith

pub freed : (t : ℕ) {u : ℕ} (q₀ q : List ℕ) (x : ℕ) → Ahead u t q₀ q → u ≤ 32 → 32 ≤ u → JOINED < length q → ((v : ℕ) → bit x v ≡ (bit (get_or q JOINED 0) v && not (eqb v t)))
    → Freed t q₀ (set q JOINED x)
freed t {u} q₀ q x o a b h e = record {
  long = length-set q JOINED x ∙ o.long;
  before = λ w v l. rw (get_or-set_other q JOINED (BEFORE + w) x 0 (λ y. omega arith)) (o.before w v (omega arith));
  joined = λ v. rw (get_or-set_same q JOINED x 0 h, e v, o.rest JOINED (λ k g y. omega arith));
  front = λ i l. get_or-set_other q JOINED i x 0 (λ y. omega arith) ∙ o.rest i (λ k g y. omega arith);
  back = λ i l. get_or-set_other q JOINED i x 0 (λ y. omega arith) ∙ o.rest i (λ k g y. omega arith);
}

-- ---- Taken

module _ (t : ℕ) (t32 : t < 32) (b q : List ℕ) (fits : QUEUE ≤ length q) (p all x : ℕ) where
  abbrev q₁ : List ℕ
  q₁ = set q (PLACE + t) p

  abbrev q₂ : List ℕ
  q₂ = set q₁ PLACED (p + 1)

  abbrev q₃ : List ℕ
  q₃ = set q₂ (BEFORE + t) all

  abbrev q₄ : List ℕ
  q₄ = set q₃ JOINED x

  long₁ : length q₁ ≡ length q
  long₁ = length-set q (PLACE + t) p

  long₂ : length q₂ ≡ length q
  long₂ = length-set q₁ PLACED (p + 1) ∙ long₁

  long₃ : length q₃ ≡ length q
  long₃ = length-set q₂ (BEFORE + t) all ∙ long₂

  away₂ : (i : ℕ) → i ≢ PLACE + t → i ≢ PLACED → get_or q₂ i 0 ≡ get_or q i 0
  away₂ i d e = get_or-set_other q₁ PLACED i (p + 1) 0 e ∙ get_or-set_other q (PLACE + t) i p 0 d

  away₄ : (i : ℕ) → i ≢ BEFORE + t → i ≢ JOINED → get_or q₄ i 0 ≡ get_or q₂ i 0
  away₄ i d e = get_or-set_other q₃ JOINED i x 0 e ∙ get_or-set_other q₂ (BEFORE + t) i all 0 d

  pub seated : p ≡ get_or q PLACED 0 → all ≡ get_or q₂ JOINED 0 → ((u : ℕ) → bit x u ≡ (bit all u || eqb u t)) → Placing t b q (set b (ORDER + p) t) q₄
  seated ep ea ex = record {
    long = length-set q₃ JOINED x ∙ long₃;
    order = rw ep;
    place = away₄ (PLACE + t) (λ e. omega arith) (λ e. omega arith) ∙ get_or-set_other q₁ PLACED (PLACE + t) (p + 1) 0 (λ e. omega arith) ∙ get_or-set_same q (PLACE + t) p 0 (omega arith) ∙ ep;
    more = away₄ PLACED (λ e. omega arith) (λ e. omega arith) ∙ get_or-set_same q₁ PLACED (p + 1) 0 (rw long₁ (omega arith)) ∙ rw ep;
    before = get_or-set_other q₃ JOINED (BEFORE + t) x 0 (λ e. omega arith) ∙ get_or-set_same q₂ (BEFORE + t) all 0 (rw long₂ (omega arith)) ∙ old;
    joined = λ u. rw (get_or-set_same q₃ JOINED x 0 (rw long₃ (omega arith)), ex u, old);
    rest = λ i d e f g. away₄ i f g ∙ away₂ i d e;
  }
    where
      old : all ≡ get_or q JOINED 0
      old = ea ∙ away₂ JOINED (λ e. omega arith) (λ e. omega arith)

-- the bytes are as many
pub seated_long : {t : ℕ} (b : List ℕ) {q b' q' : List ℕ} → Placing t (waiting t b) q b' q' → length b' ≡ length b
seated_long {t} b {q} p = rw (p.order, length-set (waiting t b) (ORDER + placed q) t, length-set (set b (FAILED + t) 0) (PHASE + t) 2, length-set b (FAILED + t) 0)
