-- Rows of words: where they are, words stored, a save's row as its set; the sheets that two rows have in common, block by block.
use Prim.Native.Nat.{ℕ, ◌+◌, ◌*◌, ◌/◌, ◌%◌, ◌≤◌, ◌<◌}
use mathlib.Core.Path.{◌≡◌, sym, ◌∙◌, fun_ext}
use mathlib.Core.Bool.{Bool, true, false, ◌&&◌}
use mathlib.Core.Logic.{◌≢◌}
use mathlib.Core.List.{List}
use native.Mathlib.Omega.{arith}
use lib.ListN.{length, set, length-set}
use lib.Seq.{get_or-set_same, get_or-set_other}
use Rattle.rules.specs.Table.{any}
use Rattle.rules.proofs.Table.{same?, below?, clash, and_l, any_at, any_intro, any_none, any_fails}
use Rattle.sets.specs.Bit.{bit, word, in_row, stride, blocks}
use Rattle.sets.specs.Loop.{Inside}
use Rattle.sets.proofs.Loops.{row_bit}
use Rattle.state.specs.View.{in_set, owner_in, OWNED, rows}
use Rattle.state.specs.Fit.{Ends}
use Rattle.state.proofs.Parts.{member_in, member_past, member_same, set_in, set_past, owner_same}

-- ---- Where they are: block j of the code's `all`

module _ (m : ℕ) {all j : ℕ} (en : all ≡ blocks m) (jn : j < all) where
  pub in_blocks : j < blocks m
  in_blocks = rw en at jn

  pub in_reach : (s : List ℕ) → stride * blocks m + rows ≤ length s + stride → (i : ℕ) → i < rows → i + stride * j < length s
  in_reach s l i h = let z = in_blocks in omega arith

-- ---- Words stored

module _ (s : List ℕ) (i j v : ℕ) (h : i < rows) where
  pub word_stored : i + stride * j < length s → word (set s (i + stride * j) v) i j ≡ v
  word_stored l = get_or-set_same s (i + stride * j) v 0 l

  pub word_beside : (r k : ℕ) → r < rows → (r ≡ i → k ≢ j) → word (set s (i + stride * j) v) r k ≡ word s r k
  word_beside r k l d = get_or-set_other s (i + stride * j) (r + stride * k) v 0 (λ e. d (omega arith) (omega arith))

-- of block j rows i and k have the words v and w now
pub record Pair (i k j v w : ℕ) (s s' : List ℕ) : Type 0 where
  pub long : length s' ≡ length s
  pub first : word s' i j ≡ v
  pub second : word s' k j ≡ w
  pub rest : (r y : ℕ) → r < rows → (r ≡ i → y ≢ j) → (r ≡ k → y ≢ j) → word s' r y ≡ word s r y

pub paired : (s : List ℕ) (i k j v w : ℕ) → i < k → k < rows → k + stride * j < length s → Pair i k j v w s (set (set s (i + stride * j) v) (k + stride * j) w)
paired s i k j v w ik h l = let s₁ = set s (i + stride * j) v in record {
  long = length-set s₁ (k + stride * j) w ∙ length-set s (i + stride * j) v;
  first = word_beside s₁ k j w h i j (omega arith) (λ e _. omega arith) ∙ word_stored s i j v (omega arith) (omega arith);
  second = word_stored s₁ k j w h (rw length-set l);
  rest = λ r y a d e. word_beside s₁ k j w h r y a e ∙ word_beside s i j v (omega arith) r y a d;
}

-- ---- A save's row is its set

module _ (m : ℕ) (s : List ℕ) (r : ℕ) {t : ℕ} (t32 : t < 32) where
  pub set_row : (k : ℕ) → k < m → in_set m r s t k ≡ in_row s (r + t) k
  set_row k h = set_in m r s t k t32 ∙ member_in m s (r + t) k h

  pub set_none : (k : ℕ) → m ≤ k → in_set m r s t k ≡ false
  set_none k h = set_in m r s t k t32 ∙ member_past m s (r + t) k h

  -- digit i of word j is a sheet's
  pub set_bit : (j : ℕ) {i : ℕ} → i < 64 → 64 * j + i < m → bit (word s (r + t) j) i ≡ in_set m r s t (64 * j + i)
  set_bit j {i} i64 km = sym (set_row (64 * j + i) km ∙ row_bit s (r + t) j i i64)

-- where the words are the same
module _ (m : ℕ) (s s' : List ℕ) where
  pub set_by : (r u k : ℕ) → (u < 32 → (j : ℕ) → j < blocks m → word s' (r + u) j ≡ word s (r + u) j) → in_set m r s' u k ≡ in_set m r s u k
  set_by r u k e = below? u 32
      (λ h. set_in m r s' u k h ∙ member_same m s s' (r + u) k (e h) ∙ sym (set_in m r s u k h))
      (λ h. set_past m r s' u k h ∙ sym (set_past m r s u k h))

  pub sets_by : (r : ℕ) → ((u j : ℕ) → u < 32 → j < blocks m → word s' (r + u) j ≡ word s (r + u) j) → in_set m r s' ≡ in_set m r s
  sets_by r e = fun_ext (λ u. fun_ext (λ k. set_by r u k (λ h j. e u j h)))

  pub owners_by : ((n j : ℕ) → n < 8 → j < blocks m → word s' (OWNED + n) j ≡ word s (OWNED + n) j) → owner_in m s' 8 ≡ owner_in m s 8
  owners_by e = fun_ext (λ k. owner_same m s s' 8 k (λ n h. member_same m s s' (OWNED + n) k (λ j. e n j h)))

-- ---- The sheets that two rows have in common

abbrev pub common : (s : List ℕ) (a b k : ℕ) → Bool
common s a b k = in_row s a k && in_row s b k

-- none in the blocks before j
pub record NoneBefore (m : ℕ) (s : List ℕ) (a b j : ℕ) : Type 0 where
  pub none : (k : ℕ) → k < m → k / 64 < j → common s a b k ≡ false

-- block j, by the code's own names: `all` blocks, the rows' words x and y
module _ (m : ℕ) {all j : ℕ} (s : List ℕ) (en : all ≡ blocks m) (jn : j < all) (a b x y : ℕ) (ex : x ≡ word s a j) (ey : y ≡ word s b j) where
  pub common_at : (k : ℕ) → k / 64 ≡ j → common s a b k ≡ (bit x (k % 64) && bit y (k % 64))
  unfolding in_row
  common_at k e = rw (e, ex, ey)

  -- a digit of both is a sheet
  both_inside : Ends m s → a < rows → (c : ℕ) → c < 64 → (bit x c && bit y c) ≡ true → 64 * j + c < m
  both_inside ends h c l e = below? (64 * j + c) m (λ z. z) (λ z. clash (bit x c) (and_l (bit x c) (bit y c) e) (rw ex (ends a j c h (in_blocks m en jn) l z)))

  pub ours_inside : Ends m s → a < rows → (ours : ℕ) → ((c : ℕ) → bit ours c ≡ (bit x c && bit y c)) → Inside m j ours
  ours_inside ends h ours eo c l e = both_inside ends h c l (sym (eo c) ∙ e)

  module _ {r : Bool} (er : r ≡ any 64 (λ c. bit x c && bit y c)) where
    pub some_here : Ends m s → a < rows → r ≡ true → any m (common s a b) ≡ true
    some_here ends h e = any_at 64 (λ c. bit x c && bit y c) (sym er ∙ e) (λ c l z. any_intro m (common s a b) (64 * j + c) (both_inside ends h c l z)
        (rw (row_bit s a j c l, row_bit s b j c l, ← ex, ← ey) z))

    pub none_here : NoneBefore m s a b j → r ≡ false → NoneBefore m s a b (j + 1)
    none_here g e = record {
      none = λ k h l. same? (k / 64) j
          (λ z. common_at k z ∙ any_none 64 (λ c. bit x c && bit y c) (sym er ∙ e) (k % 64) (omega arith))
          (λ z. g.none k h (omega arith));
    }

pub none_first : (m : ℕ) (s : List ℕ) (a b : ℕ) → NoneBefore m s a b 0
none_first m s a b = record { none = λ k h l. absurd (zero l) }
  where
    zero : {i : ℕ} → i < 0 → ⊥
    zero l = omega arith

pub none_at_all : {m all j : ℕ} {s : List ℕ} {a b : ℕ} → all ≡ blocks m → all ≤ j → NoneBefore m s a b j → any m (common s a b) ≡ false
none_at_all {m} {s = s} {a = a} {b = b} en h g = any_fails m (common s a b) (λ k l. g.none k l (omega arith))
