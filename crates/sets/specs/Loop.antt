-- A loop over the members of a set.
use Rattle.std.specs.Prelude.{ℕ, ◌+◌, ◌*◌, ◌/◌, ◌%◌, ◌^◌, ◌<◌, ◌≡◌, Bool, true, not, ◌&&◌, eqb, ltb}
use Rattle.sets.specs.Bit.{bit}

-- of set x, `left` is still to do
pub record Over (x left : ℕ) : Type 0 where
  pub small : left < 2 ^ 64
  pub within : (k : ℕ) → bit left k ≡ true → bit x k ≡ true

-- member k is done
abbrev pub done : (x left : ℕ) → ℕ → Bool
done x left k = bit x k && not (bit left k)

-- ---- Over a row, block by block

-- the numbers of block j that pass the test of their digit
abbrev pub of_block : (j : ℕ) → (ℕ → Bool) → ℕ → Bool
of_block j f k = eqb (k / 64) j && f (k % 64)

-- the numbers of the blocks before j that pass the test
abbrev pub before_block : (j : ℕ) → (ℕ → Bool) → ℕ → Bool
before_block j f k = ltb (k / 64) j && f k

-- block j's members of x are numbers below m
abbrev pub Inside : (m j x : ℕ) → Type 0
Inside m j x = (c : ℕ) → c < 64 → bit x c ≡ true → 64 * j + c < m
