-- Entries gone from the queues: at one sheet, at a block's sheets, at all.
use Prim.Native.Nat.{ℕ, ◌+◌, ◌*◌, ◌/◌, ◌%◌, ◌^◌, ◌≤◌, ◌<◌}
use mathlib.Core.Path.{◌≡◌, refl, sym, ap, ◌∙◌}
use mathlib.Core.Bool.{Bool, true, false, not, ◌&&◌, ◌||◌, and-true, and-false}
use mathlib.Core.Logic.{◌≢◌}
use mathlib.Core.List.{List}
use native.Mathlib.Omega.{arith}
use lib.ListN.{length, get_or, set, length-set}
use lib.Seq.{get_or-set_same, get_or-set_other}
use lib.Dec.{eqb}
use borrow.Author.Tests.{eq-eqb, ne_eqb}
use Rattle.rules.proofs.Table.{same?}
use Rattle.sets.specs.Bit.{bit, low, Rest}
use Rattle.sets.specs.Loop.{Over, done, of_block}
use Rattle.sets.proofs.Loops.{over_first, over_on, done_none, done_all, done_more}
use Rattle.state.specs.View.{queued, queued_x, QUEUE}
use Rattle.state.proofs.Parts.{queue_in, queue_x_in}
use Rattle.leaving.specs.Left.{Gone}

-- ---- One sheet

module _ (m t k : ℕ) (q : List ℕ) (long : QUEUE + 2 * m ≤ length q) (km : k < m) (v y : ℕ)
    (bits : (c : ℕ) → bit v c ≡ (bit (get_or q (QUEUE + 2 * k) 0) c && not (eqb c t))) (more : (c : ℕ) → bit y c ≡ (bit (get_or q (QUEUE + 2 * k + 1) 0) c && not (eqb c t))) where
  abbrev q₁ : List ℕ
  q₁ = set q (QUEUE + 2 * k) v

  abbrev q₂ : List ℕ
  q₂ = set q₁ (QUEUE + 2 * k + 1) y

  -- a queue as its word
  here : (l : List ℕ) (a u : ℕ) → a < m → queued m l a u ≡ bit (get_or l (QUEUE + 2 * a) 0) u
  here l a u h = ap (λ (x : ℕ). bit x u) (queue_in m l a h)

  here_x : (l : List ℕ) (a u : ℕ) → a < m → queued_x m l a u ≡ bit (get_or l (QUEUE + 2 * a + 1) 0) u
  here_x l a u h = ap (λ (x : ℕ). bit x u) (queue_x_in m l a h)

  word_at : get_or q₂ (QUEUE + 2 * k) 0 ≡ v
  word_at = get_or-set_other q₁ (QUEUE + 2 * k + 1) (QUEUE + 2 * k) y 0 (λ e. omega arith) ∙ get_or-set_same q (QUEUE + 2 * k) v 0 (omega arith)

  x_at : get_or q₂ (QUEUE + 2 * k + 1) 0 ≡ y
  x_at = get_or-set_same q₁ (QUEUE + 2 * k + 1) y 0 (rw length-set (omega arith))

  other : (i : ℕ) → i ≢ QUEUE + 2 * k → i ≢ QUEUE + 2 * k + 1 → get_or q₂ i 0 ≡ get_or q i 0
  other i d e = get_or-set_other q₁ (QUEUE + 2 * k + 1) i y 0 e ∙ get_or-set_other q (QUEUE + 2 * k) i v 0 d

  pub gone_at : Gone m t (λ i. eqb i k) q q₂
  gone_at = record {
    long = length-set q₁ (QUEUE + 2 * k + 1) y ∙ length-set q (QUEUE + 2 * k) v;
    queue = λ i u h. rw (here q₂ i u h, here q i u h) (same? i k
        (λ e. rw (e, word_at, eq-eqb k k refl) (bits u))
        (λ d. rw (other (QUEUE + 2 * i) (λ e. d (omega arith)) (λ e. omega arith), ne_eqb i k d) (sym (and-true (bit (get_or q (QUEUE + 2 * i) 0) u)))));
    queue_x = λ i u h. rw (here_x q₂ i u h, here_x q i u h) (same? i k
        (λ e. rw (e, x_at, eq-eqb k k refl) (more u))
        (λ d. rw (other (QUEUE + 2 * i + 1) (λ e. omega arith) (λ e. d (omega arith)), ne_eqb i k d) (sym (and-true (bit (get_or q (QUEUE + 2 * i + 1) 0) u)))));
    ahead = λ i h. other i (λ e. omega arith) (λ e. omega arith);
  }

-- ---- None, and some and others

both_gone : (b h k e : Bool) → ((b && not (h && e)) && not (k && e)) ≡ (b && not ((h || k) && e))
both_gone false h k e = refl
both_gone true true true true = refl
both_gone true true true false = refl
both_gone true true false true = refl
both_gone true true false false = refl
both_gone true false k e = refl

module _ {m t : ℕ} where
  pub gone_none : {h : ℕ → Bool} (q : List ℕ) → ((k : ℕ) → k < m → h k ≡ false) → Gone m t h q q
  gone_none q a = record {
    long = refl;
    queue = λ k u l. rw (a k l) (sym (and-true (queued m q k u)));
    queue_x = λ k u l. rw (a k l) (sym (and-true (queued_x m q k u)));
    ahead = λ i l. refl;
  }

  pub gone_both : {h h₁ h₂ : ℕ → Bool} {q q₁ q₂ : List ℕ} → Gone m t h₁ q q₁ → Gone m t h₂ q₁ q₂ → ((k : ℕ) → k < m → h k ≡ (h₁ k || h₂ k)) → Gone m t h q q₂
  gone_both {h} {h₁} {h₂} {q} a b e = record {
    long = b.long ∙ a.long;
    queue = λ k u l. rw (b.queue k u l, a.queue k u l, e k l) (both_gone (queued m q k u) (h₁ k) (h₂ k) (eqb u t));
    queue_x = λ k u l. rw (b.queue_x k u l, a.queue_x k u l, e k l) (both_gone (queued_x m q k u) (h₁ k) (h₂ k) (eqb u t));
    ahead = λ i l. b.ahead i l ∙ a.ahead i l;
  }

  pub gone_same : {h h₁ : ℕ → Bool} {q q₁ : List ℕ} → Gone m t h₁ q q₁ → ((k : ℕ) → k < m → h k ≡ h₁ k) → Gone m t h q q₁
  gone_same a e = record {
    long = a.long;
    queue = λ k u l. a.queue k u l ∙ rw (e k l);
    queue_x = λ k u l. a.queue_x k u l ∙ rw (e k l);
    ahead = a.ahead;
  }

-- ---- A block's sheets, one by one

-- the loop: save t is gone where block j is done
pub record Going (m t j ours : ℕ) (q₀ q : List ℕ) (left : ℕ) : Type 0 where
  pub over : Over ours left
  pub gone : Gone m t (of_block j (done ours left)) q₀ q

module _ {m t j ours : ℕ} where
  pub going_first : (q : List ℕ) → ours < 2 ^ 64 → Going m t j ours q q ours
  going_first q s = record { over = over_first ours s; gone = gone_none q (λ k l. rw (done_none ours (k % 64)) (and-false (eqb (k / 64) j))) }

  pub going_end : {q₀ q : List ℕ} {left : ℕ} → Going m t j ours q₀ q left → left ≡ 0 → Gone m t (of_block j (bit ours)) q₀ q
  going_end g e = gone_same g.gone (λ k l. rw (e, done_all ours (k % 64)))

-- one sheet more, by the code's digit c
module _ {m t j ours : ℕ} {q₀ q : List ℕ} {left : ℕ} (g : Going m t j ours q₀ q left) where
  pub at_queues : QUEUE + 2 * m ≤ length q₀ → QUEUE + 2 * m ≤ length q
  at_queues h = rw g.gone.long h

  pub going_step : left ≢ 0 → {c r : ℕ} {q₁ : List ℕ} → c ≡ low left → Rest left r → Gone m t (λ k. eqb k (64 * j + c)) q q₁ → Going m t j ours q₀ q₁ r
  going_step some ec e a = record { over = over_on g.over some e; gone = gone_both g.gone (rw ec at a) (λ k _. done_more g.over some j e k) }
