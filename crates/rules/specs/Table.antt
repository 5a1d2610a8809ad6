-- Tables as functions of one or two numbers, a change of one place or one row, and tests over the numbers below a bound.
use Rattle.std.specs.Prelude.{ℕ, zero, suc, ◌+◌, Bool, true, false, ◌&&◌, ◌||◌, cond, eqb}
use Rattle.std.proofs.Math.Option.{Option, none, or_else}

module _ {A : Type 0} where
  -- place i becomes a
  unfoldable pub upd : (ℕ → A) → ℕ → A → ℕ → A
  upd f i a j = cond (eqb j i) a (f j)

  -- place i, j becomes a
  unfoldable pub upd2 : (ℕ → ℕ → A) → ℕ → ℕ → A → ℕ → ℕ → A
  upd2 f i j a x y = cond (eqb x i && eqb y j) a (f x y)

  -- row i becomes g
  unfoldable pub row : (ℕ → ℕ → A) → ℕ → (ℕ → A) → ℕ → ℕ → A
  row f i g x y = cond (eqb x i) (g y) (f x y)

-- every number below n passes the test
unfoldable pub all : ℕ → (ℕ → Bool) → Bool
all zero f = true
all (suc n) f = f n && all n f

-- some number below n passes the test
unfoldable pub any : ℕ → (ℕ → Bool) → Bool
any zero f = false
any (suc n) f = f n || any n f

-- the numbers below n in rising order: the first thing that f gives
unfoldable pub first_below : {A : Type 0} → ℕ → (ℕ → Option A) → Option A
first_below zero f = none
first_below (suc n) f = or_else (first_below n f) (f n)

-- how many numbers below n pass the test
unfoldable pub count : ℕ → (ℕ → Bool) → ℕ
count zero f = 0
count (suc n) f = count n f + cond (f n) 1 0
