-- What `Bits` says of words of 64 digits, of words of any width; and an operation that goes digit by digit.
use Prim.Native.Nat.{ℕ, zero, suc, ◌+◌, ◌-◌, ◌*◌, ◌/◌, ◌%◌, ◌^◌, ◌<◌, suc-le-suc}
use mathlib.Core.Path.{◌≡◌, refl}
use mathlib.Core.Bool.{Bool, true, false, not, ◌&&◌, ◌||◌}
use native.Mathlib.Omega.{arith}
use native.Mathlib.Nat.{not-suc-le-zero, zero-lt-suc, mod-lt, pow-suc}
use lib.Dec.{eqb}
use lib.Pow.{pow_pos}
use lib.Bits.{bit_and, bit_or, bit_xor}
use lib.Count.{count_trailing_zeros}
use Rattle.rules.proofs.Table.{below?}
use Rattle.sets.specs.Bit.{bit}
use Rattle.sets.proofs.Bits.{bit_zero, bit_suc, bit_past, bit_one, one_shifted, bit-and, bit-or, bit-xor, xor, parity, tz_even, tz_odd, half_pos, half_lt}

two : (n : ℕ) → n % 2 < 2
two n = mod-lt n (zero-lt-suc 1)

-- ---- The operations

module _ (op : ℕ → ℕ → ℕ) (f : ℕ → ℕ → ℕ) (g : Bool → Bool → Bool)
    (step : (a b : ℕ) → op a b ≡ op (a / 2) (b / 2) * 2 + f (a % 2) (b % 2))
    (shr : (a b k : ℕ) → op a b / 2 ^ k ≡ op (a / 2 ^ k) (b / 2 ^ k))
    (small : (x y : ℕ) → x < 2 → y < 2 → (f x y < 2) × (eqb (f x y) 1 ≡ g (eqb x 1) (eqb y 1))) where
  pub bit_op : (x y k : ℕ) → bit (op x y) k ≡ g (bit x k) (bit y k)
  unfolding bit
  bit_op x y k = rw (shr x y k, step (x / 2 ^ k) (y / 2 ^ k)) (let a = x / 2 ^ k in let b = y / 2 ^ k in
      let s = small (a % 2) (b % 2) (two a) (two b) in rw (last (op (a / 2) (b / 2)) (f (a % 2) (b % 2)) s.0) s.1)
    where
      last : (h m : ℕ) → m < 2 → (h * 2 + m) % 2 ≡ m
      last h m l = omega arith

-- ---- The lowest member

pub tz_lt : (d x : ℕ) → 0 < x → x < 2 ^ d → count_trailing_zeros d x < d
tz_lt zero x h k = absurd (omega arith)
tz_lt (suc d) x h k = parity x
    (λ e. rw (tz_even d x e) (suc-le-suc (tz_lt d (x / 2) (half_pos d x h e) (half_lt d x k))))
    (λ e. rw (tz_odd d x e) (zero-lt-suc d))

pub tz_in : (d x : ℕ) → 0 < x → x < 2 ^ d → bit x (count_trailing_zeros d x) ≡ true
tz_in zero x h k = absurd (omega arith)
tz_in (suc d) x h k = parity x
    (λ e. rw (tz_even d x e, bit_suc x) (tz_in d (x / 2) (half_pos d x h e) (half_lt d x k)))
    (λ e. rw (tz_odd d x e, bit_zero x, e))

pub tz_first : (d x k : ℕ) → k < count_trailing_zeros d x → bit x k ≡ false
unfolding count_trailing_zeros
tz_first zero x k l = absurd (not-suc-le-zero l)
tz_first (suc d) x zero l = parity x (λ e. rw (bit_zero x, e)) (λ e. absurd (not-suc-le-zero (rw (tz_odd d x e) at l)))
tz_first (suc d) x (suc k) l = parity x
    (λ e. rw (bit_suc x k) (tz_first d (x / 2) k (let l' : suc k < suc (count_trailing_zeros d (x / 2)) = rw (tz_even d x e) at l in omega arith)))
    (λ e. absurd (not-suc-le-zero (rw (tz_odd d x e) at l)))

-- ---- Members taken in and out

-- one member more
pub bit_with : (w x j k : ℕ) → j < w → bit (bit_or x ((1 * 2 ^ j) % 2 ^ w)) k ≡ (bit x k || eqb k j)
bit_with w x j k h = rw (one_shifted w j h, bit-or x (2 ^ j) k, bit_one j k)

-- all members below n
bit_ones : (n k : ℕ) → k < n → bit (2 ^ n - 1) k ≡ true
bit_ones zero k l = absurd (not-suc-le-zero l)
bit_ones (suc n) zero l = rw (bit_zero, pow-suc 2 n) (let z : (2 ^ n * 2 - 1) % 2 ≡ 1 = omega (arith, pow_pos n) in rw z)
bit_ones (suc n) (suc k) l = rw (bit_suc, pow-suc 2 n) (let z : (2 ^ n * 2 - 1) / 2 ≡ 2 ^ n - 1 = omega (arith, pow_pos n) in rw z (bit_ones n k (omega arith)))

-- the members of x that y has not
pub bit_minus : (w x y k : ℕ) → x < 2 ^ w → bit (bit_and x (bit_xor y (2 ^ w - 1))) k ≡ (bit x k && not (bit y k))
bit_minus w x y k h = rw (bit-and, bit-xor y) (below? k w (λ l. rw (bit_ones w k l) (flip (bit x k) (bit y k))) (λ l. rw (bit_past x w k h l)))
  where
    flip : (a b : Bool) → (a && xor b true) ≡ (a && not b)
    flip a true = refl
    flip a false = refl
