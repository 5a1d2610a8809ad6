-- Decimal figures: the fuel does not matter where it is enough, the last ones come off, and how many there are.
use mathlib.Core.Path.{◌≡◌, refl, sym, ap, ◌∙◌}
use mathlib.Core.Bool.{Bool, true, false}
use mathlib.Core.List.{List, [], ◌∷◌, ◌++◌, append_assoc}
use Prim.Native.Nat.{ℕ, zero, suc, ◌+◌, ◌-◌, ◌/◌, ◌%◌, ◌^◌, ◌≤◌, ◌<◌}
use native.Mathlib.Nat.{pow-suc, zero-add, suc-add}
use native.Mathlib.Omega.{arith}
use borrow.Author.Tests.{lt-ltb, le-ltb, ltb-true, ltb-false}
use lib.Dec.{ltb}
use lib.ListN.{length, length-append}
use Rattle.rules.specs.Report.{figures, decimal, field}
use Rattle.text.specs.declared.Writer.{Writer}
use Rattle.text.specs.Wrote.{Wrote}
use Rattle.text.specs.Writes.{Writes}
use Rattle.text.specs.Lines.{last_two}
use Rattle.text.proofs.Writing.{wrote_as}

-- a number's size beside 10
ten : {P : Type 0} (n : ℕ) → (n < 10 → P) → (10 ≤ n → P) → P
ten {P} n f g = by (ltb n 10) refl where
  by : (b : Bool) → ltb n 10 ≡ b → P
  by true e = f (ltb-true n 10 e)
  by false e = g (ltb-false n 10 e)

-- the last figure
abbrev last : ℕ → List ℕ
last n = (48 + n % 10) ∷ []

figures_low : (f n : ℕ) → n < 10 → figures (suc f) n ≡ last n
unfolding figures
figures_low f n h = rw (lt-ltb n 10 h)

figures_high : (f n : ℕ) → 10 ≤ n → figures (suc f) n ≡ figures f (n / 10) ++ last n
unfolding figures
figures_high f n h = rw (le-ltb n 10 h)

one_more : (f n : ℕ) → n < f → figures f n ≡ figures (suc f) n
one_more zero n h = absurd (omega arith)
one_more (suc f) n h =
    ten n
    (λ l. figures_low f n l ∙ sym (figures_low (suc f) n l))
    (λ l. figures_high f n l ∙ rw (one_more f (n / 10) (omega arith)) (sym (figures_high (suc f) n l)))

-- more fuel than the number itself
enough : (d n : ℕ) → figures (d + suc n) n ≡ decimal n
unfolding decimal
enough zero n = rw zero-add
enough (suc d) n = rw suc-add (sym (one_more (d + suc n) n (omega arith)) ∙ enough d n)

pub decimal_low : (n : ℕ) → n < 10 → decimal n ≡ last n
unfolding decimal
decimal_low n h = figures_low n n h

decimal_high : (n : ℕ) → 10 ≤ n → decimal n ≡ decimal (n / 10) ++ last n
unfolding decimal
decimal_high n h =
    let d : n ≡ (n - suc (n / 10)) + suc (n / 10) = omega arith in
    let e : figures n (n / 10) ≡ decimal (n / 10) = ap (λ (f : ℕ). figures f (n / 10)) d ∙ enough (n - suc (n / 10)) (n / 10) in
    figures_high n n h ∙ rw e

-- ---- Two figures at a time

pub decimal_two : (n : ℕ) → 10 ≤ n → n < 100 → decimal n ≡ last_two n
decimal_two n h k = decimal_high n h ∙ rw (decimal_low (n / 10) (omega arith))

pub decimal_long : (n : ℕ) → 100 ≤ n → decimal n ≡ decimal (n / 100) ++ last_two n
decimal_long n h =
    let e : n / 10 / 10 ≡ n / 100 = omega arith in
    let s : decimal (n / 10) ≡ decimal (n / 100) ++ last (n / 10) = decimal_high (n / 10) (omega arith) ∙ rw e in
    decimal_high n (omega arith) ∙ rw s (append_assoc (decimal (n / 100)) (last (n / 10)) (last n))

-- ---- How many

-- a number below 10 to the k has at most k figures
pub decimal_short : (k n : ℕ) → n < 10 ^ suc k → length (decimal n) ≤ suc k
decimal_short zero n h = rw (decimal_low n (omega arith)) (omega arith)
decimal_short (suc k) n h =
    ten n
    (λ l. rw (decimal_low n l) (omega arith))
    (λ l.
    let s = decimal_short k (n / 10) (omega (arith, pow-suc 10 (suc k))) in
    rw (decimal_high n l, length-append) (omega arith))

-- a field, by a tenth of its number
field_size : (n : ℕ) → length (field n) ≡ 1 + length (decimal n)
unfolding field
field_size n = omega arith

pub field_low : (n : ℕ) → n < 10 → length (field n) ≡ 2
field_low n h = let e = ap length (decimal_low n h) in omega (arith, field_size n)

pub field_high : (n : ℕ) → 10 ≤ n → length (field n) ≡ 1 + length (field (n / 10))
field_high n h =
    let e = ap length (decimal_high n h) ∙ length-append (decimal (n / 10)) (last n) in
    omega (arith, field_size n, field_size (n / 10))

pub field_short : (n : ℕ) → n < 2 ^ 32 → length (field n) ≤ 11
field_short n h = let s = decimal_short 9 n (omega arith) in omega (arith, field_size n)

-- what was written is the number, a u32
pub decimal_written : {l m x : List ℕ} {a b u : ℕ} (n : ℕ) → n < 2 ^ 32 → decimal n ≡ x → Wrote l a x u b m → Wrote l a (decimal n) 10 b m
decimal_written n h e w = wrote_as (sym e) (decimal_short 9 n (omega arith)) w

pub decimal_writes : {w v : Writer} {x : List ℕ} {a : ℕ} (n : ℕ) → n < 2 ^ 32 → decimal n ≡ x → Writes w v x a → Writes w v (decimal n) 10
decimal_writes n h e p = record { same = p.same; long = p.long; wrote = decimal_written n h e p.wrote }
