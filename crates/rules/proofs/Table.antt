-- Laws of tables as functions, of tests over numbers, and of sums. Case splits that remember their equation.
use Prim.Native.Nat.{ℕ, zero, suc, ◌+◌, ◌*◌, ◌≤◌, ◌<◌}
use mathlib.Core.Path.{◌≡◌, refl, sym, ap, ◌∙◌}
use mathlib.Core.Bool.{Bool, true, false, ◌&&◌, ◌||◌, cond, true≢false, or-true, or-false}
use mathlib.Core.Logic.{◌≢◌}
use mathlib.Core.Option.{Option, none, some, or_else}
use native.Mathlib.Omega.{arith}
use native.Mathlib.Nat.{not-suc-le-zero, le_refl}
use lib.Dec.{ltb, eqb}
use borrow.Author.Tests.{ltb-true, ltb-false, eqb-true, eqb-false, eq-eqb, ne_eqb}
use Rattle.rules.specs.Table.{upd, upd2, row, all, any, count, first_below}

-- ---- Bool with a remembered equation
pub bool : {P : Type 0} (b : Bool) → (b ≡ true → P) → (b ≡ false → P) → P
bool true f g = f refl
bool false f g = g refl

pub same? : {P : Type 0} (i j : ℕ) → (i ≡ j → P) → (i ≢ j → P) → P
same? i j f g = bool (eqb i j) (λ e. f (eqb-true i j e)) (λ e. g (eqb-false i j e))

pub below? : {P : Type 0} (i j : ℕ) → (i < j → P) → (j ≤ i → P) → P
below? i j f g = bool (ltb i j) (λ e. f (ltb-true i j e)) (λ e. g (ltb-false i j e))

pub same2? : {P : Type 0} (x i y j : ℕ) → (x ≡ i → y ≡ j → P) → ((x ≡ i → y ≡ j → ⊥) → P) → P
same2? x i y j f g = same? x i (λ e. same? y j (f e) (λ n. g (λ _. n))) (λ n. g (λ e _. n e))

-- ---- a table as a function
module _ {A : Type 0} where
  pub upd_same : (f : ℕ → A) (i : ℕ) (a : A) → upd f i a i ≡ a
  unfolding upd
  upd_same f i a = rw (eq-eqb i i refl)

  pub upd_other : (f : ℕ → A) (i : ℕ) (a : A) (j : ℕ) → j ≢ i → upd f i a j ≡ f j
  unfolding upd
  upd_other f i a j h = rw (ne_eqb j i h)

  -- by cases on the place that is read
  pub upd_at : (P : A → Type 0) (f : ℕ → A) (i : ℕ) (a : A) (j : ℕ) → (j ≡ i → P a) → (j ≢ i → P (f j)) → P (upd f i a j)
  upd_at P f i a j p q = same? j i (λ e. rw (e, upd_same f i a) (p e)) (λ n. rw (upd_other f i a j n) (q n))

-- ---- a table of two indices
module _ {A : Type 0} where
  pub upd2_same : (f : ℕ → ℕ → A) (i j : ℕ) (a : A) → upd2 f i j a i j ≡ a
  unfolding upd2
  upd2_same f i j a = rw (eq-eqb i i refl, eq-eqb j j refl)

  pub upd2_at : (P : A → Type 0) (f : ℕ → ℕ → A) (i j : ℕ) (a : A) (x y : ℕ)
      → (x ≡ i → y ≡ j → P a) → ((x ≡ i → y ≡ j → ⊥) → P (f x y)) → P (upd2 f i j a x y)
  unfolding upd2
  upd2_at P f i j a x y p q =
      bool (eqb x i)
      (λ e. bool (eqb y j) (λ e'. rw (e, e') (p (eqb-true x i e) (eqb-true y j e'))) (λ e'. rw (e, e') (q (λ _. eqb-false y j e'))))
      (λ e. rw e (q (λ r _. eqb-false x i e r)))

  pub upd2_other : (f : ℕ → ℕ → A) (i j : ℕ) (a : A) (x y : ℕ) → (x ≡ i → y ≡ j → ⊥) → upd2 f i j a x y ≡ f x y
  upd2_other f i j a x y n = upd2_at (λ b. b ≡ f x y) f i j a x y (λ e e'. absurd (n e e')) (λ _. refl)

  pub upd2_cong : (f h : ℕ → ℕ → A) (i j : ℕ) (a b : A) (x y : ℕ) → f x y ≡ h x y → a ≡ b → upd2 f i j a x y ≡ upd2 h i j b x y
  unfolding upd2
  upd2_cong f h i j a b x y e q = rw (e, q)

  -- a whole row
  pub row_same : (f : ℕ → ℕ → A) (i : ℕ) (h : ℕ → A) (y : ℕ) → row f i h i y ≡ h y
  unfolding row
  row_same f i h y = rw (eq-eqb i i refl)

  pub row_other : (f : ℕ → ℕ → A) (i : ℕ) (h : ℕ → A) (x y : ℕ) → x ≢ i → row f i h x y ≡ f x y
  unfolding row
  row_other f i h x y n = rw (ne_eqb x i n)

  pub row_at : (P : A → Type 0) (f : ℕ → ℕ → A) (i : ℕ) (h : ℕ → A) (x y : ℕ) → (x ≡ i → P (h y)) → (x ≢ i → P (f x y)) → P (row f i h x y)
  row_at P f i h x y p q = same? x i (λ e. rw (e, row_same f i h y) (p e)) (λ n. rw (row_other f i h x y n) (q n))

  pub cond_at : (P : A → Type 0) (b : Bool) (x y : A) → (b ≡ true → P x) → (b ≡ false → P y) → P (cond b x y)
  cond_at P true x y f g = f refl
  cond_at P false x y f g = g refl

-- ---- tests over the numbers below a bound
pub and_l : (a b : Bool) → a && b ≡ true → a ≡ true
and_l true b e = refl
and_l false b e = e

pub and_r : (a b : Bool) → a && b ≡ true → b ≡ true
and_r true b e = e
and_r false true e = refl
and_r false false e = e

pub and_i : (a b : Bool) → a ≡ true → b ≡ true → a && b ≡ true
and_i true b e f = f
and_i false b e f = e

pub clash : {P : Type 0} (b : Bool) → b ≡ true → b ≡ false → P
clash b e f = absurd (true≢false (sym e ∙ f))

pub all_at : (n : ℕ) (f : ℕ → Bool) → all n f ≡ true → (i : ℕ) → i < n → f i ≡ true
unfolding all
all_at zero f e i h = absurd (not-suc-le-zero h)
all_at (suc n) f e i h = same? i n (λ q. rw q (and_l (f n) (all n f) e)) (λ q. all_at n f (and_r (f n) (all n f) e) i (omega arith))

pub all_intro : (n : ℕ) (f : ℕ → Bool) → ((i : ℕ) → i < n → f i ≡ true) → all n f ≡ true
unfolding all
all_intro zero f h = refl
all_intro (suc n) f h = and_i (f n) (all n f) (h n (le_refl (suc n))) (all_intro n f (λ i l. h i (omega arith)))

-- a test that fails somewhere: the least place where it fails is not needed here
pub all_or : {P : Type 0} (n : ℕ) (f : ℕ → Bool) → (all n f ≡ true → P) → ((i : ℕ) → i < n → f i ≡ false → P) → P
unfolding all
all_or zero f y x = y refl
all_or (suc n) f y x = bool (f n) (λ e. all_or n f (λ a. y (and_i (f n) (all n f) e a)) (λ i l. x i (omega arith))) (λ e. x n (le_refl (suc n)) e)

pub any_at : {P : Type 0} (n : ℕ) (f : ℕ → Bool) → any n f ≡ true → ((i : ℕ) → i < n → f i ≡ true → P) → P
unfolding any
any_at zero f e x = absurd (true≢false (sym e))
any_at (suc n) f e x = bool (f n) (λ q. x n (le_refl (suc n)) q) (λ q. any_at n f (rw q at e) (λ i l. x i (omega arith)))

pub any_intro : (n : ℕ) (f : ℕ → Bool) (i : ℕ) → i < n → f i ≡ true → any n f ≡ true
unfolding any
any_intro zero f i h e = absurd (not-suc-le-zero h)
any_intro (suc n) f i h e = same? i n (λ q. rw (← q, e)) (λ q. rw (any_intro n f i (omega arith) e) (or-true (f n)))

pub any_none : (n : ℕ) (f : ℕ → Bool) → any n f ≡ false → (i : ℕ) → i < n → f i ≡ false
any_none n f e i h = bool (f i) (λ q. clash (any n f) (any_intro n f i h q) e) (λ q. q)

pub any_fails : (n : ℕ) (f : ℕ → Bool) → ((i : ℕ) → i < n → f i ≡ false) → any n f ≡ false
any_fails n f h = bool (any n f) (λ e. any_at n f e (λ i l q. clash (f i) q (h i l))) (λ e. e)

-- ---- the first of the numbers below a bound
module _ {A : Type 0} where
  pub first_none : (n : ℕ) (f : ℕ → Option A) → ((i : ℕ) → i < n → f i ≡ none) → first_below n f ≡ none
  unfolding first_below or_else
  first_none zero f h = refl
  first_none (suc n) f h = rw (first_none n f (λ i l. h i (omega arith))) (h n (le_refl (suc n)))

  pub first_at : (n : ℕ) (f : ℕ → Option A) (i : ℕ) (a : A) → i < n → f i ≡ some a → ((j : ℕ) → j < i → f j ≡ none) → first_below n f ≡ some a
  unfolding first_below or_else
  first_at zero f i a l e h = absurd (not-suc-le-zero l)
  first_at (suc n) f i a l e h = same? i n
      (λ q. rw (first_none n f (λ j o. h j (omega arith))) (rw q at e))
      (λ q. rw (first_at n f i a (omega arith) e h))

  -- there is none, or a first one
  pub first_cases : {P : Type 0} (n : ℕ) (f : ℕ → Option A) → (((i : ℕ) → i < n → f i ≡ none) → P)
      → ((i : ℕ) (a : A) → i < n → f i ≡ some a → ((j : ℕ) → j < i → f j ≡ none) → P) → P
  first_cases zero f x y = x (λ i l. absurd (not-suc-le-zero l))
  first_cases {P} (suc n) f x y = first_cases n f (λ h. here (f n) refl h) (λ i a l. y i a (omega arith))
    where
      here : (o : Option A) → f n ≡ o → ((i : ℕ) → i < n → f i ≡ none) → P
      here none e h = x (λ i l. same? i n (λ q. rw q e) (λ q. h i (omega arith)))
      here (some a) e h = y n a (le_refl (suc n)) e h

pub any_cong : (n : ℕ) (f g : ℕ → Bool) → ((i : ℕ) → i < n → f i ≡ g i) → any n f ≡ any n g
unfolding any
any_cong zero f g h = refl
any_cong (suc n) f g h = rw (h n (le_refl (suc n)), any_cong n f g (λ i o. h i (omega arith)))

-- one number's test may come to pass
pub any_more : (n : ℕ) (f g : ℕ → Bool) (k : ℕ) → k < n → ((i : ℕ) → i ≢ k → g i ≡ f i) → (f k ≡ true → g k ≡ true) → any n g ≡ (any n f || g k)
any_more n f g k o h m =
    bool (g k) (λ e. any_intro n g k o e ∙ sym (ap (λ b. any n f || b) e ∙ or-true (any n f)))
    (λ e. any_cong n g f (λ i _. same? i k (λ z. rw z (e ∙ sym (bool (f k) (λ y. clash (g k) (m y) e) (λ y. y)))) (h i)) ∙ sym (ap (λ b. any n f || b) e ∙ or-false (any n f)))

-- ---- sums

unfoldable pub sum : ℕ → (ℕ → ℕ) → ℕ
sum zero f = 0
sum (suc n) f = sum n f + f n

pub sum_le : (n : ℕ) (f g : ℕ → ℕ) → ((i : ℕ) → i < n → f i ≤ g i) → sum n f ≤ sum n g
unfolding sum
sum_le zero f g h = le_refl 0
sum_le (suc n) f g h = omega (arith, sum_le n f g (λ i o. h i (omega arith)), h n (le_refl (suc n)))

-- one summand falls by x and none rises
pub sum_falls : (n : ℕ) (f g : ℕ → ℕ) (x i : ℕ) → i < n → f i + x ≤ g i → ((j : ℕ) → j < n → j ≢ i → f j ≤ g j) → sum n f + x ≤ sum n g
unfolding sum
sum_falls zero f g x i o h k = absurd (not-suc-le-zero o)
sum_falls (suc n) f g x i o h k =
    same? i n
    (λ e. omega (arith, sum_le n f g (λ j r. k j (omega arith) (omega arith)), rw e at h))
    (λ d. omega (arith, sum_falls n f g x i (omega arith) h (λ j r. k j (omega arith)), k n (le_refl (suc n)) (λ e. d (sym e))))

-- one summand rises by at most x and no other does
pub sum_rises : (n : ℕ) (f g : ℕ → ℕ) (x i : ℕ) → f i ≤ g i + x → ((j : ℕ) → j ≢ i → f j ≤ g j) → sum n f ≤ sum n g + x
unfolding sum
sum_rises zero f g x i h k = omega arith
sum_rises (suc n) f g x i h k =
    same? i n
    (λ e. omega (arith, sum_le n f g (λ j o. k j (λ z. omega arith)), rw e at h))
    (λ d. omega (arith, sum_rises n f g x i h k, k n (λ e. d (sym e))))

pub sum_bound : (n c : ℕ) (f : ℕ → ℕ) → ((i : ℕ) → i < n → f i ≤ c) → sum n f ≤ n * c
unfolding sum
sum_bound zero c f h = omega arith
sum_bound (suc n) c f h = omega (arith, sum_bound n c f (λ i o. h i (omega arith)), h n (le_refl (suc n)))

pub sum_two : (n a b : ℕ) (f g w : ℕ → ℕ) → ((i : ℕ) → i < n → f i ≤ a * g i + b * w i) → sum n f ≤ a * sum n g + b * sum n w
unfolding sum
sum_two zero a b f g w h = omega arith
sum_two (suc n) a b f g w h = omega (arith, sum_two n a b f g w (λ i o. h i (omega arith)), h n (le_refl (suc n)))

abbrev pub one : Bool → ℕ
one true = 1
one false = 0

pub one_one : (b : Bool) → one b ≤ 1
one_one true = omega arith
one_one false = omega arith

pub count_sum : (n : ℕ) (f : ℕ → Bool) → count n f ≡ sum n (λ i. one (f i))
unfolding count sum
count_sum zero f = refl
count_sum (suc n) f = rw (count_sum n f) (bool (f n) (λ e. rw e) (λ e. rw e))
