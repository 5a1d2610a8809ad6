-- TAKE's entries block after block.
use Prim.Native.Nat.{ℕ, suc, ◌+◌, ◌*◌, ◌/◌, ◌%◌, ◌^◌, ◌≤◌, ◌<◌}
use mathlib.Core.Path.{◌≡◌, refl, sym, ◌∙◌}
use mathlib.Core.Bool.{Bool, true, false, ◌&&◌, ◌||◌, or-false, and-false}
use mathlib.Core.Logic.{◌≢◌}
use mathlib.Core.List.{List}
use native.Mathlib.Omega.{arith}
use native.Mathlib.Numerals.{add-one}
use lib.ListN.{length}
use lib.Dec.{eqb, ltb}
use borrow.Author.Tests.{ne_eqb, lt-ltb, le-ltb}
use Rattle.rules.proofs.Table.{same?, below?, clash, and_l}
use Rattle.sets.specs.Bit.{bit, low, word, in_row, stride, blocks}
use Rattle.sets.specs.Loop.{of_block, Inside}
use Rattle.sets.proofs.Bits.{bit_none, bit_past, tz_in, tz_lt, tz_first}
use Rattle.sets.proofs.Loops.{some_left, block_of, digit_of, before_first, next_block}
use Rattle.state.specs.View.{rows, COPIED, CLAIM, CLAIM_X, HELD, OWNED, QUEUE}
use Rattle.state.specs.Fit.{Ends}
use Rattle.state.specs.Stored.{Stored}
use Rattle.entering.specs.Enter.{Entered, late, ours, ours_x, fails, First, first_of, Rowing}
use Rattle.std.specs.Prelude.{Option, None, Some}
use Rattle.std.specs.Option.{option_or}
use Rattle.entering.proofs.Entering.{enter_none, enter_both, held_same}

-- ---- The first sheet of those that fail

module _ (test : ℕ → Bool) (m j : ℕ) {x : ℕ} (small : x < 2 ^ 64)
    (bits : (i : ℕ) → i < 64 → 64 * j + i < m → bit x i ≡ test (64 * j + i)) (inside : (i : ℕ) → bit x i ≡ true → 64 * j + i < m) where
  -- sheet k of block j
  of_j : (k : ℕ) → k < m → k / 64 ≡ j → bit x (k % 64) ≡ false → test k ≡ false
  of_j k l e b = let z : 64 * j + k % 64 ≡ k = omega arith in
      rw z at (sym (bits (k % 64) (omega arith) (rw z l)) ∙ b)

  first_on : (first : Option ℕ) → First test m j first → First test m (suc j) (option_or first (first_of j x))
  first_on (Some f) g = let b = g.block in record { here = g.here; block = omega arith; passes = g.passes; lower = g.lower }
  first_on None g = same? x 0 nothing here
    where
      nothing : x ≡ 0 → First test m (suc j) (first_of j x)
      nothing w = rw w (λ k l i. same? (k / 64) j (λ q. of_j k l q (rw w (bit_none (k % 64)))) (λ q. g k l (omega arith)))

      here : x ≢ 0 → First test m (suc j) (first_of j x)
      here w =
          let y = tz_in x (some_left w) small in
          let s = tz_lt x (some_left w) small in
          let n = inside (low x) y in
          rw (ne_eqb x 0 w) (record {
            here = n;
            block = omega arith;
            passes = sym (bits (low x) s n) ∙ y;
            lower = λ k l. same? (k / 64) j
                (λ q. of_j k (omega arith) q (tz_first x (some_left w) small (k % 64) (omega arith)))
                (λ q. g k (omega arith) (omega arith));
          })

-- ---- One block more

module _ {m n t : ℕ} {seen w s₀ s q₀ q : List ℕ} {first : Option ℕ} {j : ℕ} (g : Rowing m n t seen w s₀ s q₀ q first j) (jb : j < blocks m) (t32 : t < 32) (n8 : n < 8) where
  pub row_words : stride * blocks m + rows ≤ length s₀ + stride → rows + stride * j ≤ length s
  row_words l = rw g.held.long (omega arith)

  pub row_queues : QUEUE + 2 * m ≤ length q₀ → QUEUE + 2 * m ≤ length q
  row_queues l = rw g.entered.long l

  module _ (our : ℕ) (eo : (c : ℕ) → bit our c ≡ (bit (word s (CLAIM + t) j) c && bit (word s (OWNED + n) j) c)) where
    our₀ : (c : ℕ) → bit our c ≡ (bit (word s₀ (CLAIM + t) j) c && bit (word s₀ (OWNED + n) j) c)
    our₀ c = eo c ∙ rw (g.held.rest (CLAIM + t) j (omega arith) jb (λ e. omega arith), g.held.rest (OWNED + n) j (omega arith) jb (λ e. omega arith))

    -- the word's digits are the row's sheets
    ours_at : (k : ℕ) → k / 64 ≡ j → ours s₀ n t k ≡ bit our (k % 64)
    unfolding in_row
    ours_at k e = rw (e, our₀ (k % 64))

    pub row_inside : Ends m s₀ → Inside m j our
    row_inside ends i l b = below? (64 * j + i) m (λ h. h)
        (λ h. clash (bit (word s₀ (CLAIM + t) j) i) (and_l (bit (word s₀ (CLAIM + t) j) i) (bit (word s₀ (OWNED + n) j) i) (sym (our₀ i) ∙ b)) (ends (CLAIM + t) j i (omega arith) jb l h))

    module _ (ends : Ends m s₀) {s₁ q₁ : List ℕ} {x : ℕ} {first₁ : Option ℕ} (hold : Stored (HELD + t + stride * j) (λ c. bit (word s (HELD + t) j) c || bit our c) s s₁)
        (en : Entered m t (of_block j (bit our)) (of_block j (λ i. bit our i && bit (word s₁ (CLAIM_X + t) j) i)) q q₁)
        (small : x < 2 ^ 64) (la : (i : ℕ) → bit x i ≡ (bit our i && late m q seen w t (bit (word s₁ (COPIED + t) j) i) (64 * j + i)))
        (ef : first₁ ≡ option_or first (first_of j x)) where
      -- the other rows are as they were
      other_row : (r : ℕ) → r < rows → r ≢ HELD + t → word s₁ r j ≡ word s₀ r j
      other_row r l d = hold.rest (r + stride * j) (λ e. d (omega arith)) ∙ g.held.rest r j l jb d

      x_at : (k : ℕ) → k / 64 ≡ j → in_row s₀ (CLAIM_X + t) k ≡ bit (word s₁ (CLAIM_X + t) j) (k % 64)
      unfolding in_row
      x_at k e = rw (e, other_row (CLAIM_X + t) (omega arith) (λ z. omega arith))

      copied_at : (k : ℕ) → k / 64 ≡ j → in_row s₀ (COPIED + t) k ≡ bit (word s₁ (COPIED + t) j) (k % 64)
      unfolding in_row
      copied_at k e = rw (e, other_row (COPIED + t) (omega arith) (λ z. omega arith))

      bits_at : (i : ℕ) → i < 64 → 64 * j + i < m → bit x i ≡ fails m s₀ q₀ seen w n t (64 * j + i)
      bits_at i l o =
          let a = block_of j i l in
          let b = digit_of j i l in
          la i ∙ rw (ours_at (64 * j + i) a, copied_at (64 * j + i) a, b, held_same g.entered (64 * j + i) o (rw (a, le-ltb j j (omega arith))))

      inside_at : (i : ℕ) → bit x i ≡ true → 64 * j + i < m
      inside_at i b = below? i 64
          (λ l. row_inside ends i l (and_l (bit our i) (late m q seen w t (bit (word s₁ (COPIED + t) j) i) (64 * j + i)) (sym (la i) ∙ b)))
          (λ l. clash (bit x i) b (bit_past x 64 i small l))

      pub row_on : Rowing m n t seen w s₀ s₁ q₀ q₁ first₁ (j + 1)
      row_on = rw (add-one j) (record {
        entered = enter_both g.entered en
            (λ k _. next_block (ours s₀ n t) (bit our) j k (ours_at k))
            (λ k _. next_block (ours_x s₀ n t) (λ i. bit our i && bit (word s₁ (CLAIM_X + t) j) i) j k (λ e. rw (ours_at k e, x_at k e)));
        held = record {
          long = hold.long ∙ g.held.long;
          here = λ i c l. same? i j
              (λ e. rw (e, lt-ltb j (suc j) (omega arith)) (hold.here c ∙ rw (g.held.here j c jb, le-ltb j j (omega arith), or-false (bit (word s₀ (HELD + t) j) c), our₀ c)))
              (λ d. rw (hold.rest (HELD + t + stride * i) (λ e. d (omega arith)), g.held.here i c l, later i d));
          rest = λ r i a l d. hold.rest (r + stride * i) (λ e. d (omega arith)) ∙ g.held.rest r i a l d;
        };
        found = rw ef (first_on (fails m s₀ q₀ seen w n t) m j small bits_at inside_at first g.found);
      })
        where
          later : (i : ℕ) → i ≢ j → ltb i j ≡ ltb i (suc j)
          later i d = below? i j (λ l. rw (lt-ltb i j l, lt-ltb i (suc j) (omega arith))) (λ l. rw (le-ltb i j l, le-ltb i (suc j) (omega arith)))

    -- a block where the save has nothing
    pub row_skip : Ends m s₀ → our ≡ 0 → Rowing m n t seen w s₀ s q₀ q first (j + 1)
    row_skip ends e = row_on ends {x = 0}
        (record { long = refl; here = λ c. rw (none c) (sym (or-false (bit (word s (HELD + t) j) c))); rest = λ i d. refl })
        (enter_none q (λ k l. rw (none (k % 64)) (and-false (eqb (k / 64) j))) (λ k l. rw (none (k % 64)) (and-false (eqb (k / 64) j))))
        (omega arith)
        (λ i. rw (bit_none i, none i))
        (none_new first)
      where
        none : (c : ℕ) → bit our c ≡ false
        none c = rw e (bit_none c)

        none_new : (o : Option ℕ) → o ≡ option_or o None
        none_new None = refl
        none_new (Some f) = refl

-- at first
pub row_first : (m n t : ℕ) (seen w s q : List ℕ) → Rowing m n t seen w s s q q None 0
row_first m n t seen w s q = record {
  entered = enter_none q (λ k _. before_first (ours s n t) k) (λ k _. before_first (ours_x s n t) k);
  held = record {
    long = refl;
    here = λ i c l. rw (le-ltb i 0 (omega arith)) (sym (or-false (bit (word s (HELD + t) i) c)));
    rest = λ r i a l d. refl;
  };
  found = λ k l i. absurd (none i);
}
  where
    none : {i : ℕ} → i < 0 → ⊥
    none l = omega arith

-- all blocks are done
pub row_end : {m n t : ℕ} {seen w s₀ s q₀ q : List ℕ} {first : Option ℕ} {j all : ℕ} → Rowing m n t seen w s₀ s q₀ q first j → all ≡ blocks m → j ≤ all → all ≤ j → Rowing m n t seen w s₀ s q₀ q first (blocks m)
row_end {m = m} {j = j} g e a b = let z : j ≡ blocks m = omega arith in rw z at g
