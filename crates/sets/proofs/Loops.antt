-- One turn of a loop over a set, number by number: each turn changes its own number's place alone. Every loop over a set is an instance.
use Prim.Native.Nat.{ℕ, suc, ◌+◌, ◌*◌, ◌/◌, ◌%◌, ◌^◌, ◌<◌}
use mathlib.Core.Path.{◌≡◌, refl, sym, ap, ◌∙◌}
use mathlib.Core.Bool.{Bool, true, false, ◌&&◌, ◌||◌, and-true, and-false, or-false}
use mathlib.Core.Logic.{◌≢◌}
use mathlib.Core.List.{List}
use native.Mathlib.Omega.{arith}
use lib.Dec.{eqb}
use borrow.Author.Tests.{eq-eqb, ne_eqb, lt-ltb, le-ltb}
use Rattle.rules.proofs.Table.{bool, same?, below?, clash}
use Rattle.sets.specs.Bit.{bit, low, Rest, word, in_row}
use Rattle.sets.specs.Loop.{Over, done, of_block, before_block, Inside}
use Rattle.sets.proofs.Bits.{tz_lt, tz_in, bit_none}

-- ---- Words of a row

module _ (j i : ℕ) (h : i < 64) where
  pub block_of : (64 * j + i) / 64 ≡ j
  block_of = omega arith

  pub digit_of : (64 * j + i) % 64 ≡ i
  digit_of = omega arith

  -- another number of the block
  pub other_digit : (k : ℕ) → k / 64 ≡ j → k ≢ 64 * j + i → k % 64 ≢ i
  other_digit k e d z = d (omega arith)

-- word j of a row has its numbers from 64 * j on
pub row_bit : (l : List ℕ) (a j i : ℕ) → i < 64 → in_row l a (64 * j + i) ≡ bit (word l a j) i
unfolding in_row
row_bit l a j i h = rw (block_of j i h, digit_of j i h)

-- ---- The loop

pub some_left : {left : ℕ} → left ≢ 0 → 0 < left
some_left {left} d = same? left 0 (λ e. absurd (d e)) (λ n. omega arith)

pub over_first : (x : ℕ) → x < 2 ^ 64 → Over x x
over_first x h = record { small = h; within = λ k e. e }

module _ {x left : ℕ} (o : Over x left) (some : left ≢ 0) where
  pub low_small : low left < 64
  low_small = tz_lt left (some_left some) o.small

  pub low_left : bit left (low left) ≡ true
  low_left = tz_in left (some_left some) o.small

  pub low_in : bit x (low left) ≡ true
  low_in = o.within (low left) low_left

  pub done_here : done x left (low left) ≡ false
  done_here = rw (low_in, low_left)

  module _ {r : ℕ} (e : Rest left r) where
    pub over_on : Over x r
    over_on = record {
      small = let a = e.less in let b = o.small in omega arith;
      within = λ k y. o.within k (bool (bit left k) (λ z. z) (λ z. clash (bit r k) y (rw (e.bits k, z))));
    }

    pub done_now : done x r (low left) ≡ true
    done_now = rw (low_in, e.bits (low left), low_left, eq-eqb (low left) (low left) refl)

    pub done_same : (k : ℕ) → k ≢ low left → done x r k ≡ done x left k
    done_same k d = rw (e.bits k, ne_eqb k (low left) d, and-true (bit left k))

-- nothing is done at first, all at the end
pub done_none : (x k : ℕ) → done x x k ≡ false
done_none x k = bool (bit x k) (λ z. rw z) (λ z. rw z)

pub done_all : (x k : ℕ) → done x 0 k ≡ bit x k
done_all x k = rw (bit_none k) (and-true (bit x k))

-- ---- The loop over a block's numbers

module _ {x left : ℕ} (o : Over x left) (some : left ≢ 0) (j : ℕ) where
  abbrev k₀ : ℕ
  k₀ = 64 * j + low left

  -- a turn's number, by the code's own digit c
  pub at_digit : {m c : ℕ} → Inside m j x → c ≡ low left → (c < 64) × (64 * j + c < m)
  at_digit inside e = rw e (low_small o some, inside (low left) (low_small o some) (low_in o some))

  -- it is not done yet
  pub not_yet : (f : ℕ → Bool) → of_block j (λ i. done x left i && f i) k₀ ≡ false
  not_yet f = rw (block_of j (low left) (low_small o some), digit_of j (low left) (low_small o some), done_here o some) (and-false (eqb j j))

  -- and is done next, it alone
  pub one_more : {r : ℕ} → Rest left r → (f : ℕ → Bool) (k : ℕ) → of_block j (λ i. done x r i && f i) k ≡ (of_block j (λ i. done x left i && f i) k || (eqb k k₀ && f (low left)))
  one_more e f k = same? k k₀
      (λ q. rw (q, block_of j (low left) (low_small o some), digit_of j (low left) (low_small o some), eq-eqb j j refl, eq-eqb k₀ k₀ refl, done_now o some e, done_here o some))
      (λ d. rw (ne_eqb k k₀ d) (same? (k / 64) j
      (λ q. rw (q, eq-eqb j j refl, done_same o some e (k % 64) (other_digit j (low left) (low_small o some) k q d)) (sym (or-false _)))
      (λ q. rw (ne_eqb (k / 64) j q))))

  -- the same where all pass the test
  plain : (l k : ℕ) → of_block j (done x l) k ≡ of_block j (λ i. done x l i && true) k
  plain l k = ap (λ (b : Bool). eqb (k / 64) j && b) (sym (and-true (done x l (k % 64))))

  pub not_done : of_block j (done x left) k₀ ≡ false
  not_done = plain left k₀ ∙ not_yet (λ i. true)

  pub done_more : {r : ℕ} → Rest left r → (k : ℕ) → of_block j (done x r) k ≡ (of_block j (done x left) k || eqb k k₀)
  done_more {r} e k = plain r k ∙ one_more e (λ i. true) k ∙ rw (sym (plain left k)) (ap (λ (b : Bool). of_block j (done x left) k || b) (and-true (eqb k k₀)))

-- ---- Block after block

pub before_first : (f : ℕ → Bool) (k : ℕ) → before_block 0 f k ≡ false
before_first f k = rw (le-ltb (k / 64) 0 (omega arith))

pub next_block : (f g : ℕ → Bool) (j k : ℕ) → (k / 64 ≡ j → f k ≡ g (k % 64)) → before_block (suc j) f k ≡ (before_block j f k || of_block j g k)
next_block f g j k e = same? (k / 64) j
    (λ z. rw (z, lt-ltb j (suc j) (omega arith), le-ltb j j (omega arith), eq-eqb j j refl) (e z))
    (λ z. rw (ne_eqb (k / 64) j z) (below? (k / 64) j
    (λ l. rw (lt-ltb (k / 64) j l, lt-ltb (k / 64) (suc j) (omega arith)) (sym (or-false (f k))))
    (λ l. rw (le-ltb (k / 64) j l, le-ltb (k / 64) (suc j) (omega arith)))))
