-- A wide run, by the words of its sets.
use Prim.Native.Nat.{ℕ, ◌+◌, ◌*◌, ◌/◌, ◌%◌, ◌^◌, ◌≤◌, ◌<◌}
use mathlib.Core.Path.{◌≡◌, refl, sym, ◌∙◌}
use mathlib.Core.Bool.{Bool, true, false, not, ◌&&◌, ◌||◌}
use mathlib.Core.Logic.{◌≢◌}
use mathlib.Core.List.{List}
use native.Mathlib.Omega.{arith}
use native.Mathlib.Nat.{not-suc-le-zero}
use borrow.Author.Tests.{ne_eqb}
use Rattle.rules.specs.State.{wider, wide_by}
use Rattle.rules.proofs.Table.{same?, below?, clash, any_at, any_intro, any_fails}
use Rattle.sets.specs.Bit.{bit, word, in_row, blocks}
use Rattle.sets.proofs.Bits.{bit_any, bit_none}
use Rattle.sets.proofs.Loops.{block_of, digit_of}
use Rattle.state.specs.View.{in_set, claim_in, claim_of, mark_of, COPIED, WRITTEN, CLAIM, CLAIM_X}
use Rattle.state.specs.Fit.{Sets}
use Rattle.state.proofs.Parts.{in_block}
use Rattle.state.proofs.Rows.{set_row}
use Rattle.submits.specs.Wide.{asks, wide_in}

-- by the code's own names for the words
pub asked : (s : List ℕ) (t j : ℕ) {p a w x : ℕ} (c d r : ℕ) → p ≡ word s (COPIED + t) j → a ≡ word s (CLAIM + t) j → ((i : ℕ) → bit c i ≡ (bit p i && not (bit a i)))
    → w ≡ word s (WRITTEN + t) j → x ≡ word s (CLAIM_X + t) j → ((i : ℕ) → bit d i ≡ (bit w i && not (bit x i)))
    → ((i : ℕ) → bit r i ≡ (bit c i || bit d i)) → (i : ℕ) → bit r i ≡ asks s t j i
unfolding asks
asked s t j c d r ep ea ec ew ex ed er i = er i ∙ rw (ec i, ed i, ep, ea, ew, ex)

-- no copy of the first n blocks asks for more
abbrev pub Narrow : List ℕ → (t n : ℕ) → Type 0
Narrow s t n = (j c : ℕ) → j < n → asks s t j c ≡ false

pub narrow_none : (s : List ℕ) (t : ℕ) → Narrow s t 0
narrow_none s t j c h = absurd (not-suc-le-zero h)

pub narrow_on : (s : List ℕ) (t j : ℕ) {r : ℕ} → Narrow s t j → ((c : ℕ) → bit r c ≡ asks s t j c) → r ≡ 0 → Narrow s t (j + 1)
narrow_on s t j n e z i c h = same? i j (λ q. rw q (sym (e c) ∙ rw z (bit_none c))) (λ d. n i c (omega arith))

-- ---- Against the rules' test

by_marks : (c x p w : Bool) → (x ≡ true → c ≡ true) → wider (claim_of c x) (mark_of p w) ≡ ((p && not c) || (w && not x))
by_marks c x false false h = refl
by_marks true true true false h = refl
by_marks true false true false h = refl
by_marks false true true false h = clash false (h refl) refl
by_marks false false true false h = refl
by_marks true true true true h = refl
by_marks true false true true h = refl
by_marks false true true true h = clash false (h refl) refl
by_marks false false true true h = refl
by_marks true true false true h = refl
by_marks true false false true h = refl
by_marks false true false true h = clash false (h refl) refl
by_marks false false false true h = refl

module _ {m : ℕ} {s : List ℕ} (z : Sets m s) (t : ℕ) (t32 : t < 32) where
  by_row : (r k : ℕ) → k < m → in_set m r s t k ≡ bit (word s (r + t) (k / 64)) (k % 64)
  unfolding in_row
  by_row r k h = set_row m s r t32 k h

  asks_wider : (k : ℕ) → k < m → wider (claim_in m s t k) (mark_of (in_set m COPIED s t k) (in_set m WRITTEN s t k)) ≡ asks s t (k / 64) (k % 64)
  unfolding asks
  asks_wider k h = by_marks (in_set m CLAIM s t k) (in_set m CLAIM_X s t k) (in_set m COPIED s t k) (in_set m WRITTEN s t k) (z.claimed t k)
      ∙ rw (by_row COPIED k h, by_row CLAIM k h, by_row WRITTEN k h, by_row CLAIM_X k h)

  pub not_wide : {n j : ℕ} → n ≡ blocks m → n ≤ j → Narrow s t j → false ≡ wide_in m s t
  unfolding wide_by
  not_wide e l n = sym (any_fails m (λ k. wider (claim_in m s t k) (mark_of (in_set m COPIED s t k) (in_set m WRITTEN s t k)))
      (λ k h. asks_wider k h ∙ n (k / 64) (k % 64) (let b = in_block m k h in omega arith)))

  -- past the sheets nothing is asked
  asks_past : (j c : ℕ) → j < blocks m → c < 64 → m ≤ 64 * j + c → asks s t j c ≡ false
  unfolding asks
  asks_past j c b h l = rw (z.ends (COPIED + t) j c (omega arith) b h l, z.ends (WRITTEN + t) j c (omega arith) b h l)

  here : (j c : ℕ) → c < 64 → asks s t ((64 * j + c) / 64) ((64 * j + c) % 64) ≡ asks s t j c
  here j c h = rw (block_of j c h, digit_of j c h)

  pub one_wide : {n : ℕ} (j : ℕ) {r : ℕ} → n ≡ blocks m → j < n → r < 2 ^ 64 → ((c : ℕ) → bit r c ≡ asks s t j c) → r ≢ 0 → true ≡ wide_in m s t
  unfolding wide_by
  one_wide j {r} en b fits e d = any_at 64 (bit r) (bit_any 64 r fits ∙ rw (ne_eqb r 0 d))
      (λ c h y. below? (64 * j + c) m
      (λ l. sym (any_intro m (λ k. wider (claim_in m s t k) (mark_of (in_set m COPIED s t k) (in_set m WRITTEN s t k))) (64 * j + c) l (asks_wider (64 * j + c) l ∙ here j c h ∙ sym (e c) ∙ y)))
      (λ l. clash (bit r c) y (e c ∙ asks_past j c (rw en at b) h l)))
