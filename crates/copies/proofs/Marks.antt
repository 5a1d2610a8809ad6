-- A copy is made or written: marks and contents then, and what is kept.
use Prim.Native.Nat.{ℕ, ◌+◌, ◌*◌, ◌/◌, ◌≤◌, ◌<◌}
use mathlib.Core.Path.{◌≡◌, refl}
use mathlib.Core.Bool.{true, false}
use mathlib.Core.List.{List}
use native.Mathlib.Omega.{arith}
use lib.ListN.{length, set, length-set}
use Rattle.rules.specs.State.{Sheet, Mark, copied, written}
use Rattle.rules.specs.Table.{upd2}
use Rattle.rules.proofs.Table.{upd2_same, upd2_other, upd2_at}
use Rattle.sets.specs.Bit.{stride, blocks}
use Rattle.state.specs.View.{mark_of, in_set, flat, COPIED, WRITTEN, CLAIM, rows}
use Rattle.state.specs.Fit.{Table, Kept}
use Rattle.state.proofs.Cells.{row_fits, cell_in}
use Rattle.state.proofs.Keeping.{Beside, kept_beside}
use Rattle.state.proofs.Parts.{flat_set}
use Rattle.state.proofs.Tables.{upd2_by}
use Rattle.copies.proofs.Joining.{Joined, set_joined, set_beside}

-- ---- Sizes

-- a row of a table is in it
pub row_in : (n m : ℕ) (l : List ℕ) (x : ℕ) → x < n → Table n m l → x * m + m ≤ length l
row_in n m l x h f = omega (arith, row_fits m h, f)

pub table_set : (n m : ℕ) (l : List ℕ) (i v : ℕ) → Table n m l → Table n m (set l i v)
table_set n m l i v h = rw length-set h

-- a sheet's word of a row is in the sets
pub word_in : (m i k : ℕ) (s : List ℕ) → i < rows → k < m → stride * blocks m + rows ≤ length s + stride → i + stride * (k / 64) < length s
word_in m i k s h l z = omega arith

-- ---- Marks

abbrev pub marks : ℕ → List ℕ → ℕ → ℕ → Mark
marks m s t k = mark_of (in_set m COPIED s t k) (in_set m WRITTEN s t k)

-- written implies copied
abbrev pub Within : ℕ → List ℕ → Type 0
Within m s = (t k : ℕ) → in_set m WRITTEN s t k ≡ true → in_set m COPIED s t k ≡ true

beside : {m i k : ℕ} {s s' : List ℕ} → i < CLAIM → Joined m i k s s' → Beside m s s'
beside h j = record { same = λ r y a b. j.rest r y b (λ e _. absurd (omega arith)) }

module _ {m t k : ℕ} (h : t < 32) {s s' : List ℕ} where
  -- the sheet joins those copied
  module _ (j : Joined m (COPIED + t) k s s') where
    now_copied : in_set m COPIED s' ≡ upd2 (in_set m COPIED s) t k true
    now_copied = set_joined COPIED t h j (omega arith)

    still_written : in_set m WRITTEN s' ≡ in_set m WRITTEN s
    still_written = set_beside COPIED t h j WRITTEN (omega arith) (λ u a z. omega arith)

    pub copied_beside : Beside m s s'
    copied_beside = beside (omega arith) j

    pub mark_copied : in_set m WRITTEN s t k ≡ false → marks m s' ≡ upd2 (marks m s) t k copied
    mark_copied n = upd2_by (marks m s') (marks m s) t k copied
        (rw (now_copied, still_written, upd2_same (in_set m COPIED s) t k true, n))
        (λ u y d. rw (now_copied, still_written, upd2_other (in_set m COPIED s) t k true u y d))

    pub kept_copied : {b q : List ℕ} → Kept m b s q → Kept m b s' q
    kept_copied f = kept_beside copied_beside j.long
        (λ u y e. rw now_copied (upd2_at (λ z. z ≡ true) (in_set m COPIED s) t k true u y (λ _ _. refl) (λ _. f.sets.written u y (rw still_written at e))))
        (j.ends f.sets.ends) f

  -- it joins those written
  module _ (j : Joined m (WRITTEN + t) k s s') where
    now_written : in_set m WRITTEN s' ≡ upd2 (in_set m WRITTEN s) t k true
    now_written = set_joined WRITTEN t h j (omega arith)

    still_copied : in_set m COPIED s' ≡ in_set m COPIED s
    still_copied = set_beside WRITTEN t h j COPIED (omega arith) (λ u a z. omega arith)

    pub written_beside : Beside m s s'
    written_beside = beside (omega arith) j

    pub mark_written : marks m s' ≡ upd2 (marks m s) t k written
    mark_written = upd2_by (marks m s') (marks m s) t k written
        (rw (now_written, upd2_same (in_set m WRITTEN s) t k true))
        (λ u y d. rw (now_written, still_copied, upd2_other (in_set m WRITTEN s) t k true u y d))

    pub kept_written : in_set m COPIED s t k ≡ true → {b q : List ℕ} → Kept m b s q → Kept m b s' q
    kept_written c f = kept_beside written_beside j.long
        (λ u y. rw (now_written, still_copied) (upd2_at (λ z. z ≡ true → in_set m COPIED s u y ≡ true) (in_set m WRITTEN s) t k true u y
        (λ a b _. rw (a, b) c) (λ _ e. f.sets.written u y e)))
        (j.ends f.sets.ends) f

-- ---- Copies

abbrev pub copies : ℕ → (value seen : List ℕ) → ℕ → ℕ → Sheet
copies m value seen t k = record { content = flat m value t k; wct = flat m seen t k }

module _ (m : ℕ) (value seen : List ℕ) (t k : ℕ) (t32 : t < 32) (h : k < m) (v : ℕ) (lv : Table 32 m value) where
  there : (l : List ℕ) → Table 32 m l → t * m + k < length l
  there l f = let z = cell_in m t32 h in omega (arith, f)

  pub copy_written : copies m (set value (t * m + k) v) seen ≡ upd2 (copies m value seen) t k (record { content = v; wct = flat m seen t k })
  copy_written = upd2_by (copies m (set value (t * m + k) v) seen) (copies m value seen) t k (record { content = v; wct = flat m seen t k })
      (rw (flat_set m value t k v h (there value lv), upd2_same (flat m value) t k v))
      (λ x y d. rw (flat_set m value t k v h (there value lv), upd2_other (flat m value) t k v x y d))

  pub copy_made : (c : ℕ) → Table 32 m seen → copies m (set value (t * m + k) v) (set seen (t * m + k) c) ≡ upd2 (copies m value seen) t k (record { content = v; wct = c })
  copy_made c ls = upd2_by (copies m (set value (t * m + k) v) (set seen (t * m + k) c)) (copies m value seen) t k (record { content = v; wct = c })
      (rw (flat_set m value t k v h (there value lv), upd2_same (flat m value) t k v, flat_set m seen t k c h (there seen ls), upd2_same (flat m seen) t k c))
      (λ x y d. rw (flat_set m value t k v h (there value lv), upd2_other (flat m value) t k v x y d, flat_set m seen t k c h (there seen ls), upd2_other (flat m seen) t k c x y d))
