-- Lists by places of the order: `entries`, the saves of a test by last place (a queue), and `fold`, a sheet as such saves leave it.
-- Laws go by saves and their last places; callers never look into the recursion.
use Prim.Native.Nat.{ℕ, zero, suc, ◌≤◌, ◌<◌}
use mathlib.Core.Path.{◌≡◌, refl, sym, ap, ◌∙◌}
use mathlib.Core.Bool.{Bool, true, false, not, ◌&&◌, ◌||◌, cond, true≢false, or-true, or-false, and-false, and-true}
use mathlib.Core.Logic.{◌≢◌}
use mathlib.Core.List.{List, [], ◌∷◌, ◌++◌}
use native.Mathlib.Omega.{arith}
use native.Mathlib.Nat.{le_refl, not-suc-le-zero}
use lib.ListN.{length, length-append, get_or-append}
use lib.Seq.{get_or_at}
use lib.Dec.{eqb}
use borrow.Author.Tests.{eqb-true, eq-eqb, ne_eqb}
use Rattle.rules.specs.Table.{upd}
use Rattle.rules.specs.State.{Sheet, new_sheet, store, at, is_last}
use Rattle.rules.specs.Steps.{mem, holds, before, without, empty}
use Rattle.rules.proofs.Table.{bool, same?, cond_at, clash, and_l, and_r, upd_same, upd_other}

-- a test of saves, at a place: only the last place of a save counts
unfoldable pub by : List ℕ → (ℕ → ℕ) → (ℕ → Bool) → ℕ → Bool
by order place f q = is_last order place q && f (at order q)

-- the saves of test f whose last place is before p, by last place
unfoldable pub entries : List ℕ → (ℕ → ℕ) → (ℕ → Bool) → ℕ → List ℕ
entries order place f zero = []
entries order place f (suc p) = cond (by order place f p) (entries order place f p ++ at order p ∷ []) (entries order place f p)

-- the sheet as the saves of test f whose last place is before p leave it, each storing its v
unfoldable pub fold : List ℕ → (ℕ → ℕ) → (ℕ → Bool) → (ℕ → ℕ) → ℕ → Sheet
fold order place f v zero = new_sheet
fold order place f v (suc p) = cond (by order place f p) (store (fold order place f v p) (v (at order p))) (fold order place f v p)

-- ---- one more at a list's end

pub mem_snoc : (t : ℕ) (l : List ℕ) (u : ℕ) → mem t (l ++ u ∷ []) ≡ (mem t l || eqb u t)
mem_snoc t [] u = or-false (eqb u t)
mem_snoc t (x ∷ l) u = rw (mem_snoc t l u) (bool (eqb x t) (λ e. rw e) (λ e. rw e))

pub before_in : (t : ℕ) (l : List ℕ) (u : ℕ) → mem t l ≡ true → before t (l ++ u ∷ []) ≡ before t l
before_in t [] u e = absurd (true≢false (sym e))
before_in t (x ∷ l) u e = bool (eqb x t) (λ q. rw q) (λ q. rw (q, before_in t l u (rw q at e)))

pub before_end : (t : ℕ) (l : List ℕ) → mem t l ≡ false → before t (l ++ t ∷ []) ≡ l
before_end t [] e = rw (eq-eqb t t refl)
before_end t (x ∷ l) e = bool (eqb x t) (λ q. absurd (true≢false (rw q at e))) (λ q. rw (q, before_end t l (rw q at e)))

pub without_snoc : (t : ℕ) (l : List ℕ) (u : ℕ) → without t (l ++ u ∷ []) ≡ cond (eqb u t) (without t l) (without t l ++ u ∷ [])
without_snoc t [] u = refl
without_snoc t (x ∷ l) u = bool (eqb x t) (λ q. rw (q, without_snoc t l u)) (λ q. rw (q, without_snoc t l u) (bool (eqb u t) (λ r. rw r) (λ r. rw r)))

-- ---- a list without t

pub mem_without : (t : ℕ) (l : List ℕ) → mem t (without t l) ≡ false
mem_without t [] = refl
mem_without t (x ∷ l) = bool (eqb x t) (λ q. rw q (mem_without t l)) (λ q. rw (q, q) (mem_without t l))

pub without_mem : (t u : ℕ) (l : List ℕ) → mem u (without t l) ≡ true → mem u l ≡ true
without_mem t u [] e = e
without_mem t u (x ∷ l) e =
    bool (eqb x t)
    (λ q. rw (without_mem t u l (rw q at e)) (or-true (eqb x u)))
    (λ q. bool (eqb x u) (λ r. rw r) (λ r. rw r (without_mem t u l (rw (q, r) at e))))

pub without_none : (t : ℕ) (l : List ℕ) → mem t l ≡ false → without t l ≡ l
without_none t [] e = refl
without_none t (x ∷ l) e = bool (eqb x t) (λ q. absurd (true≢false (rw q at e))) (λ q. rw (q, without_none t l (rw q at e)))

pub or_l : (b c : Bool) → b || c ≡ false → b ≡ false
or_l true c e = e
or_l false c e = refl

pub or_r : (b c : Bool) → b || c ≡ false → c ≡ false
or_r true c e = absurd (true≢false e)
or_r false c e = e

-- what a list's tests say of its members
pub holds_mem : (x : ℕ → Bool) (l : List ℕ) (u : ℕ) → holds x l ≡ false → mem u l ≡ true → x u ≡ false
holds_mem x [] u h m = absurd (true≢false (sym m))
holds_mem x (y ∷ l) u h m = bool (eqb y u) (λ e. rw (← (eqb-true y u e)) (or_l (x y) (holds x l) h)) (λ e. holds_mem x l u (or_r (x y) (holds x l) h) (rw e at m))

pub empty_mem : (l : List ℕ) (u : ℕ) → empty l ≡ true → mem u l ≡ true → ⊥
empty_mem [] u h m = true≢false (sym m)
empty_mem (y ∷ l) u h m = true≢false (sym h)

-- ---- tests of saves, at their last places

module _ (order : List ℕ) (place : ℕ → ℕ) where
  pub by_in : (f : ℕ → Bool) (t : ℕ) → at order (place t) ≡ t → f t ≡ true → by order place f (place t) ≡ true
  unfolding by
  by_in f t e y = rw (e, eq-eqb (place t) (place t) refl, y)

  pub by_out : (f : ℕ → Bool) (q : ℕ) → by order place f q ≡ true → place (at order q) ≡ q
  unfolding by
  by_out f q e = eqb-true (place (at order q)) q (and_l (eqb (place (at order q)) q) (f (at order q)) e)

  pub by_test : (f : ℕ → Bool) (q : ℕ) → by order place f q ≡ true → f (at order q) ≡ true
  unfolding by
  by_test f q e = and_r (eqb (place (at order q)) q) (f (at order q)) e

  pub by_former : (f : ℕ → Bool) (q : ℕ) → place (at order q) ≢ q → by order place f q ≡ false
  unfolding by
  by_former f q d = rw (ne_eqb (place (at order q)) q d)

  -- only what the test says of saves at their last places matters
  pub by_cong : (f g : ℕ → Bool) (q : ℕ) → ((u : ℕ) → place u ≡ q → at order q ≡ u → f u ≡ g u) → by order place f q ≡ by order place g q
  unfolding by
  by_cong f g q h = same? (place (at order q)) q (λ e. rw (h (at order q) e refl)) (λ d. rw (ne_eqb (place (at order q)) q d))

  pub by_false : (f : ℕ → Bool) (q : ℕ) → ((u : ℕ) → place u ≡ q → at order q ≡ u → f u ≡ false) → by order place f q ≡ false
  unfolding by
  by_false f q h = same? (place (at order q)) q (λ e. rw (h (at order q) e refl) (and-false (eqb (place (at order q)) q))) (λ d. rw (ne_eqb (place (at order q)) q d))

-- ---- entries

module _ (order : List ℕ) (place : ℕ → ℕ) (f : ℕ → Bool) where
  pub entries_in : (n t : ℕ) → place t < n → at order (place t) ≡ t → f t ≡ true → mem t (entries order place f n) ≡ true
  unfolding entries
  entries_in zero t h e y = absurd (not-suc-le-zero h)
  entries_in (suc n) t h e y =
      same? (place t) n
      (λ r. rw (← r, by_in order place f t e y, e, mem_snoc t (entries order place f (place t)) t, eq-eqb t t refl, or-true))
      (λ r. let m = entries_in n t (omega arith) e y in cond_at (λ l. mem t l ≡ true) (by order place f n) (entries order place f n ++ at order n ∷ []) (entries order place f n)
      (λ _. rw (mem_snoc t (entries order place f n) (at order n), m)) (λ _. m))

  pub entries_out : {P : Type 0} (n t : ℕ) → mem t (entries order place f n) ≡ true → (place t < n → at order (place t) ≡ t → f t ≡ true → P) → P
  unfolding entries
  entries_out zero t e k = absurd (true≢false (sym e))
  entries_out (suc n) t e k =
      bool (by order place f n)
      (λ y. bool (eqb (at order n) t)
      (λ z. let r = eqb-true (at order n) t z in let p : place t ≡ n = rw r at (by_out order place f n y) in k (omega arith) (rw p r) (rw r at (by_test order place f n y)))
      (λ z. entries_out n t (rw (y, mem_snoc t (entries order place f n) (at order n), z, or-false (mem t (entries order place f n))) at e) (λ l. k (omega arith))))
      (λ y. entries_out n t (rw y at e) (λ l. k (omega arith)))

  -- the entries before that of t
  pub entries_before : (n t : ℕ) → place t < n → at order (place t) ≡ t → f t ≡ true → before t (entries order place f n) ≡ entries order place f (place t)
  unfolding entries
  entries_before zero t h e y = absurd (not-suc-le-zero h)
  entries_before (suc n) t h e y =
      same? (place t) n
      (λ r. rw (← r, by_in order place f t e y, e) (before_end t (entries order place f (place t)) (bool (mem t (entries order place f (place t))) (λ z. entries_out (place t) t z (λ l. absurd (le_irr l))) (λ z. z))))
      (λ r. let m = entries_before n t (omega arith) e y in cond_at (λ l. before t l ≡ entries order place f (place t)) (by order place f n) (entries order place f n ++ at order n ∷ []) (entries order place f n)
      (λ _. rw (before_in t (entries order place f n) (at order n) (entries_in n t (omega arith) e y)) m) (λ _. m))
    where
      le_irr : {m : ℕ} → m < m → ⊥
      le_irr h = omega arith

  pub entries_nil : (n : ℕ) → ((u : ℕ) → at order (place u) ≡ u → place u < n → f u ≡ false) → entries order place f n ≡ []
  unfolding entries
  entries_nil zero h = refl
  entries_nil (suc n) h = rw (by_false order place f n (λ u e r. h u (rw e r) (omega arith))) (entries_nil n (λ u e l. h u e (omega arith)))

pub entries_by : (order other : List ℕ) (place place' : ℕ → ℕ) (f g : ℕ → Bool) (n : ℕ) → ((q : ℕ) → q < n → at order q ≡ at other q)
    → ((q : ℕ) → q < n → by order place f q ≡ by other place' g q) → entries order place f n ≡ entries other place' g n
unfolding entries
entries_by order other place place' f g zero h k = refl
entries_by order other place place' f g (suc n) h k =
    rw (h n (le_refl (suc n)), k n (le_refl (suc n)), entries_by order other place place' f g n (λ q l. h q (omega arith)) (λ q l. k q (omega arith)))

pub entries_cong : (order : List ℕ) (place : ℕ → ℕ) (f g : ℕ → Bool) (n : ℕ) → ((u : ℕ) → f u ≡ g u) → entries order place f n ≡ entries order place g n
entries_cong order place f g n h = entries_by order order place place f g n (λ q l. refl) (λ q l. by_cong order place f g q (λ u _ _. h u))

pub entries_without : (order : List ℕ) (place : ℕ → ℕ) (f : ℕ → Bool) (t n : ℕ) → without t (entries order place f n) ≡ entries order place (λ u. f u && not (eqb u t)) n
unfolding entries by
entries_without order place f t zero = refl
entries_without order place f t (suc n) =
    bool (eqb (place (at order n)) n)
    (λ e. bool (f (at order n))
    (λ y. rw (e, y, without_snoc t (entries order place f n) (at order n), entries_without order place f t n) (bool (eqb (at order n) t) (λ z. rw z) (λ z. rw z)))
    (λ y. rw (e, y, entries_without order place f t n)))
    (λ e. rw (e, entries_without order place f t n))

-- ---- one more place

module _ (order : List ℕ) (place : ℕ → ℕ) (t : ℕ) where
  pub snoc_old : (q : ℕ) → q < length order → at (order ++ t ∷ []) q ≡ at order q
  snoc_old q h = get_or-append order (t ∷ []) 0 q h

  pub snoc_new : at (order ++ t ∷ []) (length order) ≡ t
  snoc_new = get_or_at order t [] 0 (length order) refl

  pub snoc_long : length (order ++ t ∷ []) ≡ suc (length order)
  snoc_long = rw length-append (omega arith)

  -- an old place, where t now counts no more
  pub by_moved : (f g : ℕ → Bool) (q : ℕ) → q < length order → ((u : ℕ) → u ≢ t → f u ≡ g u)
      → by (order ++ t ∷ []) (upd place t (length order)) f q ≡ by order place (λ u. g u && not (eqb u t)) q
  unfolding by
  by_moved f g q h k = rw (snoc_old q h) (same? (at order q) t
      (λ e. rw (e, upd_same place t (length order), ne_eqb (length order) q (λ z. omega arith), eq-eqb t t refl) (simp and-false))
      (λ d. rw (upd_other place t (length order) (at order q) d, k (at order q) d, ne_eqb (at order q) t d) (simp and-true)))

  pub entries_moved : (f g : ℕ → Bool) (n : ℕ) → n ≤ length order → ((u : ℕ) → u ≢ t → f u ≡ g u)
      → entries order place (λ u. g u && not (eqb u t)) n ≡ entries (order ++ t ∷ []) (upd place t (length order)) f n
  entries_moved f g n h d =
      entries_by order (order ++ t ∷ []) place (upd place t (length order)) (λ u. g u && not (eqb u t)) f n
      (λ q l. sym (snoc_old q (omega arith))) (λ q l. sym (by_moved f g q (omega arith) d))

-- ---- folds over saves by last place

pub fold_by : (order other : List ℕ) (place place' : ℕ → ℕ) (f g : ℕ → Bool) (v y : ℕ → ℕ) (n : ℕ) → ((q : ℕ) → q < n → at order q ≡ at other q)
    → ((q : ℕ) → q < n → by order place f q ≡ by other place' g q) → ((q : ℕ) → q < n → by other place' g q ≡ true → v (at other q) ≡ y (at other q))
    → fold order place f v n ≡ fold other place' g y n
unfolding fold
fold_by order other place place' f g v y zero h k m = refl
fold_by order other place place' f g v y (suc n) h k m =
    rw (h n (le_refl (suc n)), k n (le_refl (suc n)), fold_by order other place place' f g v y n (λ q l. h q (omega arith)) (λ q l. k q (omega arith)) (λ q l. m q (omega arith)))
    (bool (by other place' g n) (λ e. rw (e, m n (le_refl (suc n)) e)) (λ e. rw e))

module _ (order : List ℕ) (place : ℕ → ℕ) where
  pub fold_cong : (f g : ℕ → Bool) (v y : ℕ → ℕ) (n : ℕ) → ((u : ℕ) → place u < n → f u ≡ g u) → ((u : ℕ) → place u < n → g u ≡ true → v u ≡ y u)
      → fold order place f v n ≡ fold order place g y n
  fold_cong f g v y n h k =
      fold_by order order place place f g v y n (λ q l. refl) (λ q l. by_cong order place f g q (λ u e _. h u (rw e l)))
      (λ q l e. k (at order q) (rw (by_out order place g q e) l) (by_test order place g q e))

  -- what a save that stores nothing has written does not matter
  pub fold_own : (f g : ℕ → Bool) (v y : ℕ → ℕ) (t n : ℕ) → f t ≡ false → g t ≡ false → ((u : ℕ) → u ≢ t → f u ≡ g u) → ((u : ℕ) → u ≢ t → v u ≡ y u)
      → fold order place f v n ≡ fold order place g y n
  fold_own f g v y t n a b h k =
      fold_cong f g v y n (λ u _. same? u t (λ e. rw (e, a, b)) (h u)) (λ u _ r. same? u t (λ e. clash (g u) r (rw e b)) (k u))

  pub fold_skip : (f : ℕ → Bool) (v : ℕ → ℕ) (p n : ℕ) → p ≤ n → ((u : ℕ) → at order (place u) ≡ u → p ≤ place u → f u ≡ false) → fold order place f v n ≡ fold order place f v p
  unfolding fold
  fold_skip f v p zero h k = let e : p ≡ zero = omega arith in rw e
  fold_skip f v p (suc n) h k =
      same? p (suc n) (λ e. ap (fold order place f v) (sym e))
      (λ e. rw (by_false order place f n (λ u r w. k u (rw r w) (omega arith))) (fold_skip f v p n (omega arith) k))

  -- one more save stores, and none after it has
  pub fold_one : (f g : ℕ → Bool) (v : ℕ → ℕ) (t n : ℕ) → place t < n → at order (place t) ≡ t → g t ≡ true → f t ≡ false → ((u : ℕ) → u ≢ t → g u ≡ f u)
      → ((u : ℕ) → place t < place u → f u ≡ false) → fold order place g v n ≡ store (fold order place f v n) (v t)
  unfolding fold
  fold_one f g v t n h e a b d k =
      let front : fold order place g v (place t) ≡ fold order place f v (place t) = fold_cong g f v v (place t) (λ u l. d u (λ z. le_irr (rw z at l))) (λ u l r. refl) in
      let old : fold order place f v n ≡ fold order place f v (place t) = fold_skip f v (place t) n (omega arith)
      (λ u r l. same? u t (λ z. rw z b) (λ z. k u (later l (λ w. z (sym r ∙ ap (at order) (sym w) ∙ e))))) in
      let new : fold order place g v n ≡ fold order place g v (suc (place t)) = fold_skip g v (suc (place t)) n h (λ u r l. d u (λ z. le_irr (rw z at l)) ∙ k u l) in
      rw (new, old, by_in order place g t e a, front, e)
    where
      le_irr : {m : ℕ} → m < m → ⊥
      le_irr h = omega arith

      later : {m p : ℕ} → m ≤ p → m ≢ p → m < p
      later l d = omega arith

module _ (order : List ℕ) (place : ℕ → ℕ) (t : ℕ) where
  -- a save that stores nothing takes a new place
  pub fold_moved : (f g : ℕ → Bool) (v : ℕ → ℕ) (p : ℕ) → p ≤ length order → g t ≡ false → ((u : ℕ) → u ≢ t → f u ≡ g u)
      → fold (order ++ t ∷ []) (upd place t (length order)) f v p ≡ fold order place g v p
  fold_moved f g v p h a d =
      fold_by (order ++ t ∷ []) order (upd place t (length order)) place f g v v p (λ q l. snoc_old order place t q (omega arith))
      (λ q l. by_moved order place t f g q (omega arith) d ∙ by_cong order place (λ u. g u && not (eqb u t)) g q (λ u _ _. same? u t (λ e. rw (e, a)) (λ z. rw (ne_eqb u t z) (and-true (g u)))))
      (λ q l e. refl)

  pub fold_moved_all : (f g : ℕ → Bool) (v : ℕ → ℕ) → f t ≡ false → g t ≡ false → ((u : ℕ) → u ≢ t → f u ≡ g u)
      → fold (order ++ t ∷ []) (upd place t (length order)) f v (length (order ++ t ∷ [])) ≡ fold order place g v (length order)
  unfolding fold by
  fold_moved_all f g v b a d =
      rw (snoc_long order place t, snoc_new order place t, b, and-false (eqb (upd place t (length order) t) (length order))) (fold_moved f g v (length order) (le_refl (length order)) a d)
