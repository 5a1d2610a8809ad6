-- A save's entries, block by block.
use Prim.Native.Nat.{ℕ, zero, suc, ◌+◌, ◌^◌, ◌<◌}
use mathlib.Core.Path.{◌≡◌, refl, sym, ap, ◌∙◌}
use mathlib.Core.Bool.{Bool, true, false, not, ◌&&◌, and-true, and-false}
use mathlib.Core.Logic.{◌≢◌}
use mathlib.Core.List.{List}
use native.Mathlib.Numerals.{add-one}
use native.Mathlib.Nat.{zero-add, add-zero, suc-add, add-suc}
use lib.ListN.{get_or}
use Rattle.std.specs.List.{list_all, range_with_len}
use Rattle.rules.specs.Table.{all, any}
use Rattle.rules.proofs.Table.{bool, all_at, all_intro, any_cong}
use Rattle.sets.specs.Bit.{bit, word}
use Rattle.sets.proofs.Bits.{bits_same}
use Rattle.state.specs.View.{CLAIM, HELD, BEFORE}
use Rattle.granting.specs.Granting.{same, in_ways, block_granted}

pub same_true : (a b : Bool) → same a b ≡ true → a ≡ b
same_true true b e = sym e
same_true false true e = e
same_true false false e = refl

pub same_refl : (a : Bool) → same a a ≡ true
same_refl true = refl
same_refl false = refl

-- ---- One block, by the code's own names for the words

module _ (s q : List ℕ) (t j : ℕ) {h x : ℕ} (eh : h ≡ word s (HELD + t) j) (ex : x ≡ word s (CLAIM + t) j) where
  abbrev held : Bool
  held = all 64 (λ i. same (bit (word s (HELD + t) j) i) (bit (word s (CLAIM + t) j) i))

  pub not_held : h < 2 ^ 64 → x < 2 ^ 64 → h ≢ x → false ≡ block_granted s q t j
  unfolding block_granted
  not_held lh lx d = bool held
      (λ y. absurd (d (bits_same 64 h x lh lx (λ k l. rw (eh, ex) (same_true (bit (word s (HELD + t) j) k) (bit (word s (CLAIM + t) j) k) (all_at 64 _ y k l))))))
      (λ y. rw y)

  pub all_held : h ≡ x → (w : ℕ) {z : Bool} → ((u : ℕ) → bit w u ≡ in_ways s q t j u) → z ≡ any 64 (λ u. bit w u && bit (get_or q (BEFORE + t) 0) u) → not z ≡ block_granted s q t j
  unfolding block_granted
  all_held e w ew ez =
      let y : held ≡ true = all_intro 64 _ (λ i _. rw (sym eh ∙ e ∙ ex) (same_refl (bit (word s (CLAIM + t) j) i))) in
      rw y (ap not (ez ∙ any_cong 64 _ _ (λ u _. rw (ew u))))

-- ---- All blocks

-- a test of each number of a range, from the first up, is the rules' test of all, which begins at the last
range_all_from : (f : ℕ → Bool) (a n : ℕ) → (all a f && list_all f (range_with_len a n)) ≡ all (n + a) f
unfolding all
range_all_from f a zero = rw zero-add (and-true (all a f))
range_all_from f a (suc n) = swap (all a f) (f a) (list_all f (range_with_len (a + 1) n)) ∙ rw (add-one, suc-add) (rw (add-suc n a) at (range_all_from f (suc a) n))
  where
    swap : (x y z : Bool) → (x && (y && z)) ≡ ((y && x) && z)
    swap true y z = rw and-true
    swap false y z = rw and-false

pub range_all : (f : ℕ → Bool) (n : ℕ) → list_all f (range_with_len 0 n) ≡ all n f
unfolding all
range_all f n = rw add-zero at (range_all_from f 0 n)
