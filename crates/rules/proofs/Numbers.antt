-- Numbers and their bytes, most significant first, over the width.
use Prim.Native.Nat.{ℕ, zero, suc, ◌+◌, ◌*◌, ◌/◌, ◌%◌, ◌^◌, ◌≤◌, ◌<◌}
use mathlib.Core.Path.{◌≡◌, refl, ap, ◌∙◌}
use mathlib.Core.List.{List, [], ◌∷◌, foldl}
use native.Mathlib.Nat.{zero-add, pow-suc, pow-succ', mul_comm, mod-eq_of_lt, mul-add-mod_self_right}
use native.Mathlib.Omega.{arith}
use lib.Arith.{mod-mul, digits_div, digits_lt}
use lib.ListN.{length, take, drop, get_or-eq_default, length-take}
use lib.Seq.{get_or-take, get_or-drop}
use Rattle.rules.specs.Bytes.{big_endian}
use Rattle.rules.specs.Writing.{in_bytes, Bytes}
use Rattle.rules.proofs.Table.{below?}

-- ---- Parts of a list of bytes

pub bytes_drop : (n : ℕ) (b : List ℕ) → Bytes b → Bytes (drop n b)
bytes_drop n b h i = rw get_or-drop (h (n + i))

pub bytes_take : (n : ℕ) (b : List ℕ) → Bytes b → Bytes (take n b)
bytes_take n b h i =
    below? i n
    (λ l. rw get_or-take (h i))
    (λ l.
    let short : length (take n b) ≤ i = rw length-take (omega arith) in
    rw (get_or-eq_default (take n b) 0 short) (omega arith))

-- ---- From a number to its bytes and back

pub in_bytes_length : (n v : ℕ) → length (in_bytes n v) ≡ n
unfolding in_bytes
in_bytes_length zero v = refl
in_bytes_length (suc n) v = ap suc (in_bytes_length n _)

abbrev more : ℕ → ℕ → ℕ
more a b = a * 256 + b

pow_positive : (n : ℕ) → 0 < 256 ^ n
pow_positive zero = omega arith
pow_positive (suc n) = omega (arith, pow-suc 256 n, pow_positive n)

parts : (a d p r : ℕ) → (a * 256 + d) * p + r ≡ a * (256 * p) + (d * p + r)
parts a d p r = omega arith

back_from : (n a v : ℕ) → foldl more a (in_bytes n v) ≡ a * 256 ^ n + v % 256 ^ n
unfolding in_bytes
back_from zero a v = omega arith
back_from (suc n) a v =
    let d = v / 256 ^ n % 256 in
    let e : v % (256 * 256 ^ n) ≡ d * 256 ^ n + v % 256 ^ n = mod-mul v (omega arith) (pow_positive n) in
    back_from n (a * 256 + d) v ∙ rw (pow-suc 256 n, mul_comm (256 ^ n) 256, e) (parts a d (256 ^ n) (v % 256 ^ n))

-- a number that fits is its bytes'
pub number_back : (n v : ℕ) → v < 256 ^ n → big_endian (in_bytes n v) ≡ v
number_back n v h = back_from n 0 v ∙ rw (mod-eq_of_lt h) (omega arith)

-- ---- From bytes to their number and back

number_of : (a : ℕ) (bs : List ℕ) → foldl more a bs ≡ a * 256 ^ length bs + foldl more 0 bs
number_of a [] = omega arith
number_of a (b ∷ bs) =
    number_of (a * 256 + b) bs ∙ rw (number_of (0 * 256 + b) bs, pow-suc 256 (length bs)) (omega arith)

pub number_below : (bs : List ℕ) → Bytes bs → big_endian bs < 256 ^ length bs
number_below [] h = omega arith
number_below (b ∷ bs) h =
    let l = number_below bs (λ i. h (suc i)) in
    rw (zero-add, number_of b bs, pow-succ' 256 (length bs)) (digits_lt (h 0) l)

-- the bytes behind the first do not touch it
first_byte : (a : ℕ) (bs : List ℕ) → Bytes bs → foldl more a bs / 256 ^ length bs ≡ a
first_byte a bs h = rw (number_of a bs) (digits_div a (number_below bs h))

-- bytes are those of their number
back_to : (a : ℕ) (bs : List ℕ) → Bytes bs → in_bytes (length bs) (foldl more a bs) ≡ bs
unfolding in_bytes
back_to a [] h = refl
back_to a (b ∷ bs) h =
    let hs : Bytes bs = λ i. h (suc i) in
    rw (first_byte (a * 256 + b) bs hs, mul-add-mod_self_right, mod-eq_of_lt (h 0), back_to (a * 256 + b) bs hs)

pub bytes_back : (n : ℕ) (bs : List ℕ) → Bytes bs → length bs ≡ n → in_bytes n (big_endian bs) ≡ bs
bytes_back n bs h e = rw (← e) (back_to 0 bs h)
