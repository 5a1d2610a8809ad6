-- A set of numbers as a word: k is a member where digit k is 1. A set of more numbers as a row of words, one in each block.
use Rattle.std.specs.Prelude.{ℕ, ◌+◌, ◌*◌, ◌/◌, ◌%◌, ◌^◌, ◌<◌, ◌≡◌, Bool, not, ◌&&◌, List, get_or, eqb}
use Rattle.std.specs.Int.Count.{count_trailing_zeros}

unfoldable pub bit : ℕ → ℕ → Bool
bit x k = eqb (x / 2 ^ k % 2) 1

-- the least member of a word's set
abbrev pub low : ℕ → ℕ
low x = count_trailing_zeros 64 x

-- r is x without its least member
pub record Rest (x r : ℕ) : Type 0 where
  pub bits : (k : ℕ) → bit r k ≡ (bit x k && not (eqb k (low x)))
  pub less : r < x

-- ---- A row of words

-- from one block to the next
abbrev pub stride : ℕ
stride = 256

-- how many blocks m numbers have
abbrev pub blocks : ℕ → ℕ
blocks m = (m + 63) / 64

-- word j of row i
abbrev pub word : List ℕ → (i j : ℕ) → ℕ
word l i j = get_or l (i + stride * j) 0

-- k is a member of row i's set
unfoldable pub in_row : List ℕ → (i k : ℕ) → Bool
in_row l i k = bit (word l i (k / 64)) (k % 64)
