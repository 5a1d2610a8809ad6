-- What the tables and sets of a slice are after a change of it.
use Prim.Native.Nat.{ℕ, zero, suc, ◌+◌, ◌*◌, ◌/◌, ◌%◌, ◌≤◌, ◌<◌}
use mathlib.Core.Path.{◌≡◌, refl, sym, ap, ◌∙◌, fun_ext}
use mathlib.Core.Bool.{false}
use mathlib.Core.Logic.{◌≢◌}
use mathlib.Core.List.{List}
use native.Mathlib.Omega.{arith}
use lib.ListN.{length, get_or, set}
use lib.Seq.{get_or-set_same, get_or-set_other}
use borrow.Author.Tests.{lt-ltb, le-ltb}
use Rattle.rules.specs.Table.{upd, upd2}
use Rattle.rules.proofs.Table.{below?, same?, upd_same, upd_other}
use Rattle.sets.specs.Bit.{bit, word, in_row, blocks}
use Rattle.state.specs.View.{part, flat, member, in_set, owner_in, queue_of, queue_x_of, OWNED, QUEUE}
use Rattle.state.proofs.Cells.{cell_same}
use Rattle.state.proofs.Tables.{upd2_by}

-- ---- Tables

module _ (off size : ℕ) where
  pub part_in : (l : List ℕ) (i : ℕ) → i < size → part off size l i ≡ get_or l (off + i) 0
  unfolding part
  part_in l i h = rw (lt-ltb i size h)

  pub part_past : (l : List ℕ) (i : ℕ) → size ≤ i → part off size l i ≡ 0
  unfolding part
  part_past l i h = rw (le-ltb i size h)

  -- two slices with the same table
  pub part_same : (l l' : List ℕ) → ((i : ℕ) → i < size → get_or l' (off + i) 0 ≡ get_or l (off + i) 0) → part off size l' ≡ part off size l
  part_same l l' e = fun_ext (λ i. below? i size (λ h. part_in l' i h ∙ e i h ∙ sym (part_in l i h)) (λ h. part_past l' i h ∙ sym (part_past l i h)))

  pub part_apart : (l : List ℕ) (j v : ℕ) → ((i : ℕ) → i < size → off + i ≢ j) → part off size (set l j v) ≡ part off size l
  part_apart l j v d = part_same l (set l j v) (λ i h. get_or-set_other l j (off + i) v 0 (d i h))

  pub part_set : (l : List ℕ) (i v : ℕ) → i < size → off + i < length l → part off size (set l (off + i) v) ≡ upd (part off size l) i v
  part_set l i v h f = fun_ext (λ k. same? k i
      (λ e. rw (e, upd_same (part off size l) i v) (part_in (set l (off + i) v) i h ∙ get_or-set_same l (off + i) v 0 f))
      (λ d. rw (upd_other (part off size l) i v k d) (below? k size
      (λ b. part_in (set l (off + i) v) k b ∙ get_or-set_other l (off + i) (off + k) v 0 (λ e. d (omega arith)) ∙ sym (part_in l k b))
      (λ b. part_past (set l (off + i) v) k b ∙ sym (part_past l k b)))))

  -- seen through g
  pub part_view : {A : Type 0} (g : ℕ → A) (l : List ℕ) (i v : ℕ) → i < size → off + i < length l
      → ◌≡◌ {A = ℕ → A} (λ k. g (part off size (set l (off + i) v) k)) (upd (λ k. g (part off size l k)) i (g v))
  part_view g l i v h f = fun_ext (λ k. rw (part_set l i v h f) (same? k i
      (λ e. rw (e, upd_same (part off size l) i v, upd_same (λ k. g (part off size l k)) i (g v)))
      (λ d. rw (upd_other (part off size l) i v k d, upd_other (λ k. g (part off size l k)) i (g v) k d))))

-- ---- Queues

module _ (m : ℕ) where
  pub queue_in : (q : List ℕ) (k : ℕ) → k < m → queue_of m q k ≡ get_or q (QUEUE + 2 * k) 0
  unfolding queue_of
  queue_in q k h = rw (lt-ltb k m h)

  pub queue_past : (q : List ℕ) (k : ℕ) → m ≤ k → queue_of m q k ≡ 0
  unfolding queue_of
  queue_past q k h = rw (le-ltb k m h)

  pub queue_x_in : (q : List ℕ) (k : ℕ) → k < m → queue_x_of m q k ≡ get_or q (QUEUE + 2 * k + 1) 0
  unfolding queue_x_of
  queue_x_in q k h = rw (lt-ltb k m h)

  pub queue_x_past : (q : List ℕ) (k : ℕ) → m ≤ k → queue_x_of m q k ≡ 0
  unfolding queue_x_of
  queue_x_past q k h = rw (le-ltb k m h)

  -- two slices with the same queues
  pub queue_same : (q q' : List ℕ) → ((k : ℕ) → k < m → get_or q' (QUEUE + 2 * k) 0 ≡ get_or q (QUEUE + 2 * k) 0) → queue_of m q' ≡ queue_of m q
  queue_same q q' e = fun_ext (λ k. below? k m (λ h. queue_in q' k h ∙ e k h ∙ sym (queue_in q k h)) (λ h. queue_past q' k h ∙ sym (queue_past q k h)))

  pub queue_x_same : (q q' : List ℕ) → ((k : ℕ) → k < m → get_or q' (QUEUE + 2 * k + 1) 0 ≡ get_or q (QUEUE + 2 * k + 1) 0) → queue_x_of m q' ≡ queue_x_of m q
  queue_x_same q q' e = fun_ext (λ k. below? k m (λ h. queue_x_in q' k h ∙ e k h ∙ sym (queue_x_in q k h)) (λ h. queue_x_past q' k h ∙ sym (queue_x_past q k h)))

-- ---- Rows of m

module _ (m : ℕ) where
  pub flat_in : (l : List ℕ) (t k : ℕ) → k < m → flat m l t k ≡ get_or l (t * m + k) 0
  unfolding flat
  flat_in l t k h = rw (lt-ltb k m h)

  pub flat_past : (l : List ℕ) (t k : ℕ) → m ≤ k → flat m l t k ≡ 0
  unfolding flat
  flat_past l t k h = rw (le-ltb k m h)

  pub flat_set : (l : List ℕ) (t k v : ℕ) → k < m → t * m + k < length l → flat m (set l (t * m + k) v) ≡ upd2 (flat m l) t k v
  flat_set l t k v h f = upd2_by (flat m (set l (t * m + k) v)) (flat m l) t k v
      (flat_in (set l (t * m + k) v) t k h ∙ get_or-set_same l (t * m + k) v 0 f)
      (λ x y d. below? y m
      (λ b. flat_in (set l (t * m + k) v) x y b ∙ get_or-set_other l (t * m + k) (x * m + y) v 0 (λ e. let z : x ≡ t = cell_same m b h e in d z (same_column e z)) ∙ sym (flat_in l x y b))
      (λ b. flat_past (set l (t * m + k) v) x y b ∙ sym (flat_past l x y b)))
    where
      same_column : {x y : ℕ} → x * m + y ≡ t * m + k → x ≡ t → y ≡ k
      same_column e z = let w = rw z at e in omega arith

-- ---- Sets

module _ (m : ℕ) where
  pub member_in : (l : List ℕ) (i k : ℕ) → k < m → member m l i k ≡ in_row l i k
  unfolding member
  member_in l i k h = rw (lt-ltb k m h)

  pub member_past : (l : List ℕ) (i k : ℕ) → m ≤ k → member m l i k ≡ false
  unfolding member
  member_past l i k h = rw (le-ltb k m h)

  pub in_block : (k : ℕ) → k < m → k / 64 < blocks m
  in_block k h = omega arith

  -- two slices with the same words in a row
  pub member_same : (l l' : List ℕ) (i k : ℕ) → ((j : ℕ) → j < blocks m → word l' i j ≡ word l i j) → member m l' i k ≡ member m l i k
  unfolding in_row
  member_same l l' i k e = below? k m
      (λ h. member_in l' i k h ∙ ap (λ (x : ℕ). bit x (k % 64)) (e (k / 64) (in_block k h)) ∙ sym (member_in l i k h))
      (λ h. member_past l' i k h ∙ sym (member_past l i k h))

  pub set_in : (r : ℕ) (l : List ℕ) (t k : ℕ) → t < 32 → in_set m r l t k ≡ member m l (r + t) k
  unfolding in_set
  set_in r l t k h = rw (lt-ltb t 32 h)

  pub set_past : (r : ℕ) (l : List ℕ) (t k : ℕ) → 32 ≤ t → in_set m r l t k ≡ false
  unfolding in_set
  set_past r l t k h = rw (le-ltb t 32 h)

  -- a slice with other words in one row alone, which is none of these
  pub set_same : (r : ℕ) (l l' : List ℕ) → ((t k : ℕ) → t < 32 → member m l' (r + t) k ≡ member m l (r + t) k) → in_set m r l' ≡ in_set m r l
  set_same r l l' e = fun_ext (λ t. fun_ext (λ k. below? t 32
      (λ h. set_in r l' t k h ∙ e t k h ∙ sym (set_in r l t k h))
      (λ h. set_past r l' t k h ∙ sym (set_past r l t k h))))

  pub owner_same : (l l' : List ℕ) (n k : ℕ) → ((i : ℕ) → i < n → member m l' (OWNED + i) k ≡ member m l (OWNED + i) k) → owner_in m l' n k ≡ owner_in m l n k
  unfolding owner_in
  owner_same l l' zero k e = refl
  owner_same l l' (suc n) k e = rw (e n (omega arith), owner_same l l' n k (λ i h. e i (omega arith)))
