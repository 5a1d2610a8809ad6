-- Entries gone block after block, from the queues and from the save's own set.
use Prim.Native.Nat.{ℕ, ◌+◌, ◌*◌, ◌/◌, ◌%◌, ◌≤◌, ◌<◌}
use mathlib.Core.Path.{◌≡◌, refl, sym, ◌∙◌}
use mathlib.Core.Bool.{Bool, true, false, not, ◌&&◌}
use mathlib.Core.Logic.{◌≢◌}
use mathlib.Core.List.{List}
use native.Mathlib.Omega.{arith}
use native.Mathlib.Numerals.{add-one}
use lib.ListN.{length, set, length-set}
use borrow.Author.Tests.{lt-ltb}
use Rattle.rules.proofs.Table.{same?}
use Rattle.sets.specs.Bit.{bit, word, in_row, stride, blocks}
use Rattle.sets.specs.Loop.{of_block, before_block, Inside}
use Rattle.sets.proofs.Loops.{next_block}
use Rattle.state.specs.View.{HELD, rows}
use Rattle.state.specs.Fit.{Ends}
use Rattle.state.proofs.Rows.{in_reach, word_stored, word_beside, common, common_at, ours_inside}
use Rattle.leaving.specs.Left.{Gone, Left}
use Rattle.leaving.proofs.Going.{gone_both, gone_same}

-- the loop: the blocks before j are done
pub record Blocks (m t i : ℕ) (s₀ q₀ s q : List ℕ) (j : ℕ) : Type 0 where
  pub gone : Gone m t (before_block j (common s₀ (HELD + t) i)) q₀ q
  pub long : length s ≡ length s₀
  pub held : (b c : ℕ) → b < j → bit (word s (HELD + t) b) c ≡ (bit (word s₀ (HELD + t) b) c && not (bit (word s₀ i b) c))
  pub same : (a b : ℕ) → a < rows → (a ≡ HELD + t → j ≤ b) → word s a b ≡ word s₀ a b

-- a set without what it has of another
without_both : (a b : Bool) → (a && not (a && b)) ≡ (a && not b)
without_both true b = refl
without_both false b = refl

-- ---- One block more, by the code's own names: n blocks, the save's word h, the row's word x, those of both

module _ {m t i : ℕ} {s₀ q₀ s q : List ℕ} {n j : ℕ} (g : Blocks m t i s₀ q₀ s q j) (en : n ≡ blocks m) (jn : j < n) (t32 : t < 32) (ir : i < rows) where
  pub reach : stride * blocks m + rows ≤ length s₀ + stride → (a : ℕ) → a < rows → a + stride * j < length s
  reach l a h = rw g.long (in_reach m en jn s₀ l a h)

  module _ (h x ours : ℕ) (eh : h ≡ word s (HELD + t) j) (ex : x ≡ word s i j) (eo : (c : ℕ) → bit ours c ≡ (bit h c && bit x c)) where
    held₀ : h ≡ word s₀ (HELD + t) j
    held₀ = eh ∙ g.same (HELD + t) j (omega arith) (λ e. omega arith)

    row₀ : x ≡ word s₀ i j
    row₀ = ex ∙ g.same i j ir (λ e. omega arith)

    pub inside : Ends m s₀ → Inside m j ours
    inside ends = ours_inside m s₀ en jn (HELD + t) i h x held₀ row₀ ends (omega arith) ours eo

    hit_at : (k : ℕ) → k / 64 ≡ j → common s₀ (HELD + t) i k ≡ bit ours (k % 64)
    hit_at k e = common_at m s₀ en jn (HELD + t) i h x held₀ row₀ k e ∙ sym (eo (k % 64))

    module _ (v : ℕ) {s₁ q₁ : List ℕ} (ev : (c : ℕ) → bit v c ≡ (bit h c && not (bit ours c))) (es : s₁ ≡ set s (HELD + t + stride * j) v) (a : Gone m t (of_block j (bit ours)) q q₁)
        (l : stride * blocks m + rows ≤ length s₀ + stride) where
      there : (b y : ℕ) → b < rows → (b ≡ HELD + t → y ≢ j) → word (set s (HELD + t + stride * j) v) b y ≡ word s b y
      there = word_beside s (HELD + t) j v (omega arith)

      v_bits : (c : ℕ) → bit v c ≡ (bit (word s₀ (HELD + t) j) c && not (bit (word s₀ i j) c))
      v_bits c = rw (ev c, eo c, ← held₀, ← row₀) (without_both (bit h c) (bit x c))

      pub blocks_on : Blocks m t i s₀ q₀ s₁ q₁ (j + 1)
      blocks_on = rw (es, add-one j) (record {
        gone = gone_both g.gone a (λ k _. next_block (common s₀ (HELD + t) i) (bit ours) j k (hit_at k));
        long = length-set s (HELD + t + stride * j) v ∙ g.long;
        held = λ b c z. same? b j
            (λ e. rw (e, word_stored s (HELD + t) j v (omega arith) (reach l (HELD + t) (omega arith))) (v_bits c))
            (λ d. rw (there (HELD + t) b (omega arith) (λ _. d)) (g.held b c (omega arith)));
        same = λ b y z d. there b y z (λ e w. let k = d e in omega arith) ∙ g.same b y z (λ e. let k = d e in omega arith);
      })

-- ---- All blocks

pub blocks_end : {m t i : ℕ} {s₀ q₀ s q : List ℕ} {n j : ℕ} → Blocks m t i s₀ q₀ s q j → n ≡ blocks m → n ≤ j → t < 32 → Ends m s₀ → Left m t (common s₀ (HELD + t) i) s₀ q₀ s q
unfolding in_row
blocks_end {m} {t} {i} {s₀} {q₀} {s} {q} {j = j} g en nj t32 ends = record {
  long_s = g.long;
  long_q = a.long;
  queue = a.queue;
  queue_x = a.queue_x;
  ahead = a.ahead;
  held = λ k l. g.held (k / 64) (k % 64) (omega arith) ∙ sym (without_both (bit (word s₀ (HELD + t) (k / 64)) (k % 64)) (bit (word s₀ i (k / 64)) (k % 64)));
  rest = λ x y h d. g.same x y h (λ e. absurd (d e));
  ends = λ x y c h l r z. same? x (HELD + t)
      (λ e. rw (e, g.held y c (omega arith), ends (HELD + t) y c (omega arith) l r z))
      (λ d. rw (g.same x y h (λ e. absurd (d e))) (ends x y c h l r z));
}
  where
    a : Gone m t (common s₀ (HELD + t) i) q₀ q
    a = gone_same g.gone (λ k l. rw (lt-ltb (k / 64) j (omega arith)))
