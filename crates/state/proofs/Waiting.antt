-- A queue as the placed saves of a test, by last place: what it holds, who stands in front, one more at its end.
use Prim.Native.Nat.{ℕ, zero, suc, ◌≤◌, ◌<◌}
use mathlib.Core.Path.{◌≡◌, refl, sym, ap, ◌∙◌}
use mathlib.Core.Bool.{Bool, true, false, not, ◌&&◌, ◌||◌, and-false, or-false, or-true}
use mathlib.Core.Logic.{◌≢◌}
use mathlib.Core.List.{List, [], ◌∷◌, ◌++◌}
use native.Mathlib.Omega.{arith}
use native.Mathlib.Nat.{not-suc-le-zero}
use lib.Dec.{eqb, ltb}
use borrow.Author.Tests.{eq-eqb, ne_eqb, eqb-true, lt-ltb, le-ltb}
use Rattle.rules.specs.Table.{any}
use Rattle.rules.specs.State.{at}
use Rattle.rules.specs.Steps.{mem, holds, before, at_front}
use Rattle.rules.proofs.Table.{bool, same?, below?, clash, and_i, any_intro, any_fails}
use Rattle.rules.proofs.Places.{by, entries, entries_in, entries_out, entries_before, by_in, by_out, by_test, by_false, by_cong, holds_mem}
use Rattle.state.specs.Fit.{Listed}

-- a list that holds one has it
holds_one : {P : Type 0} (x : ℕ → Bool) (l : List ℕ) → holds x l ≡ true → ((u : ℕ) → mem u l ≡ true → x u ≡ true → P) → P
holds_one x [] e k = clash false e refl
holds_one x (u ∷ l) e k = bool (x u)
    (λ y. k u (rw (eq-eqb u u refl)) y)
    (λ y. holds_one x l (rw y at e) (λ v m z. k v (rw m (or-true (eqb u v))) z))

-- a save that passes the test is an entry, if it has a place
pub mem_entries : (order : List ℕ) (place : ℕ → ℕ) (f : ℕ → Bool) (n : ℕ) {t : ℕ} → (f t ≡ true → Listed order place n t) → mem t (entries order place f n) ≡ f t
mem_entries order place f n {t} l = bool (f t)
    (λ y. entries_in order place f n t (l y).0 (l y).1 y ∙ sym y)
    (λ z. bool (mem t (entries order place f n)) (λ y. entries_out order place f n t y (λ _ _ w. clash (f t) w z)) (λ y. y ∙ sym z))

-- the first entry, with all that it has before it
pub data Front (order : List ℕ) (place : ℕ → ℕ) (f : ℕ → Bool) (n : ℕ) : Type 0 where
  none : entries order place f n ≡ [] → ((u : ℕ) → Listed order place n u → f u ≡ false) → Front order place f n
  one : (h : ℕ) (rest : List ℕ) → entries order place f n ≡ h ∷ rest → Listed order place n h → f h ≡ true
      → ((u : ℕ) → Listed order place n u → f u ≡ true → place h ≤ place u) → Front order place f n

module _ (order : List ℕ) (place : ℕ → ℕ) (f : ℕ → Bool) where
  -- a save of the next place
  next_is : (n u : ℕ) → Listed order place (suc n) u → place u ≢ n → Listed order place n u
  next_is n u l d = (let z = l.0 in omega arith, l.1)

  pub front : (n : ℕ) → Front order place f n
  unfolding entries
  front zero = none refl (λ u l. absurd (not-suc-le-zero l.0))
  front (suc n) = bool (by order place f n) (λ y. here y (front n)) (λ y. past y (front n))
    where
      p : by order place f n ≡ true → place (at order n) ≡ n
      p y = by_out order place f n y

      here : by order place f n ≡ true → Front order place f n → Front order place f (suc n)
      here y (none e z) = one (at order n) [] (rw (y, e)) (rw (p y) (omega arith, refl)) (by_test order place f n y)
          (λ u l w. same? (place u) n (λ q. let r = p y in omega arith) (λ q. clash (f u) w (z u (next_is n u l q))))
      here y (one h rest e l w lo) = one h (rest ++ at order n ∷ []) (rw (y, e)) (let z = l.0 in omega arith, l.1) w
          (λ u k v. same? (place u) n (λ q. let z = l.0 in omega arith) (λ q. lo u (next_is n u k q) v))

      past : by order place f n ≡ false → Front order place f n → Front order place f (suc n)
      past y (none e z) = none (rw (y, e)) (λ u l. same? (place u) n
          (λ q. bool (f u) (λ w. clash (by order place f n) (rw q at (by_in order place f u l.1 w)) y) (λ w. w)) (λ q. z u (next_is n u l q)))
      past y (one h rest e l w lo) = one h rest (rw (y, e)) (let z = l.0 in omega arith, l.1) w
          (λ u k v. same? (place u) n (λ q. let z = l.0 in omega arith) (λ q. lo u (next_is n u k q) v))

  -- one more save, placed after all of them
  pub one_more : (t n : ℕ) → Listed order place n t → ((u : ℕ) → Listed order place n u → f u ≡ true → place u < place t)
      → entries order place (λ u. f u || eqb u t) n ≡ entries order place f n ++ t ∷ []
  unfolding entries
  one_more t n l lo = after n l lo
    where
      g : ℕ → Bool
      g u = f u || eqb u t

      upto : (p : ℕ) → p ≤ place t → entries order place g p ≡ entries order place f p
      upto zero h = refl
      upto (suc p) h = rw (by_cong order place g f p (λ u e _. rw (ne_eqb u t (λ z. let r : place t ≡ p = rw z at e in omega arith)) (or-false (f u))), upto p (omega arith))

      after : (p : ℕ) → Listed order place p t → ((u : ℕ) → Listed order place p u → f u ≡ true → place u < place t) → entries order place g p ≡ entries order place f p ++ t ∷ []
      after zero k b = absurd (not-suc-le-zero k.0)
      after (suc p) k b = same? (place t) p
          (λ e. let a : at order p ≡ t = rw e at k.1 in
          let y : by order place g p ≡ true = rw e at (by_in order place g t k.1 (rw (eq-eqb t t refl) (or-true (f t)))) in
          let z : by order place f p ≡ false = by_false order place f p (λ u q r. bool (f u) (λ w. let s = b u (omega arith, rw q r) w in absurd (irr s (e ∙ sym q))) (λ w. w)) in
          rw (y, z, a, upto p (omega arith)))
          (λ d. let z : by order place f p ≡ false = by_false order place f p (λ u q r. bool (f u) (λ w. let s = b u (omega arith, rw q r) w in absurd (omega (arith, k.0))) (λ w. w)) in
          let y : by order place g p ≡ false = by_false order place g p (λ u q r. bool (g u) (λ w. bool (f u) (λ v. let s = b u (omega arith, rw q r) v in absurd (omega (arith, k.0))) (λ v. let c : u ≡ t = eqb-true u t (rw v at w) in absurd (d (rw c at q)))) (λ w. w)) in
          rw (y, z) (after p (let s = k.0 in omega arith, k.1) (λ u x. b u (let s = x.0 in omega arith, x.1))))
        where
          irr : {a b : ℕ} → a < b → b ≡ a → ⊥
          irr h e = omega arith

-- ---- With the saves numbered below 32

module _ (order : List ℕ) (place : ℕ → ℕ) (n : ℕ) (small : (q : ℕ) → q < n → at order q < 32) (f : ℕ → Bool)
    (placed : (u : ℕ) → f u ≡ true → Listed order place n u) where
  numbered : (u : ℕ) → Listed order place n u → u < 64
  numbered u l = let z : u < 32 = rw l.1 at (small (place u) l.0) in omega arith

  -- an entry passes the test
  pub holds_any : (x : ℕ → Bool) → holds x (entries order place f n) ≡ any 64 (λ u. f u && x u)
  holds_any x = bool (holds x (entries order place f n))
      (λ e. e ∙ sym (holds_one x (entries order place f n) e (λ u m y. entries_out order place f n u m (λ l o w. any_intro 64 (λ u. f u && x u) u (numbered u (l, o)) (and_i (f u) (x u) w y)))))
      (λ e. e ∙ sym (any_fails 64 (λ u. f u && x u) (λ u l. bool (f u)
      (λ w. let p = placed u w in rw w (holds_mem x (entries order place f n) u e (entries_in order place f n u p.0 p.1 w)))
      (λ w. rw w))))

  -- the front entry passes it: one that does has none before it
  pub front_any : (x : ℕ → Bool) → at_front x (entries order place f n) ≡ any 64 (λ u. (f u && x u) && not (any 64 (λ v. f v && ltb (place v) (place u))))
  front_any x = go (front order place f n)
    where
      test : ℕ → Bool
      test u = (f u && x u) && not (any 64 (λ v. f v && ltb (place v) (place u)))

      go : Front order place f n → at_front x (entries order place f n) ≡ any 64 test
      go (none e z) = rw e (sym (any_fails 64 test (λ u l. bool (f u) (λ w. clash (f u) w (z u (placed u w))) (λ w. rw w))))
      go (one h rest e l w lo) = rw e (bool (x h)
          (λ y. y ∙ sym (any_intro 64 test h (numbered h l) (rw (
            w,
            y,
            any_fails 64 (λ v. f v && ltb (place v) (place h))
                (λ v b. bool (f v) (λ c. rw (c, le-ltb (place v) (place h) (lo v (placed v c) c))) (λ c. rw c)),
          ))))
          (λ y. y ∙ sym (any_fails 64 test (λ u b. bool (f u)
          (λ c. bool (x u)
          (λ d. rw (c, d, any_intro 64 (λ v. f v && ltb (place v) (place u)) h (numbered h l) (rw (w, lt-ltb (place h) (place u) (before u c d y)))))
          (λ d. rw (c, d)))
          (λ c. rw c)))))
        where
          before : (u : ℕ) → f u ≡ true → x u ≡ true → x h ≡ false → place h < place u
          before u c d y = same? (place h) (place u)
              (λ q. let s : u ≡ h = sym (placed u c).1 ∙ sym (ap (at order) q) ∙ l.1 in clash (x h) (rw s at d) y)
              (λ q. let z = lo u (placed u c) c in omega arith)

  -- DECIDE's test: of the entries before save t's own, one passes
  pub holds_before : (x : ℕ → Bool) (t : ℕ) → Listed order place n t → f t ≡ true
      → holds x (before t (entries order place f n)) ≡ any 64 (λ u. (f u && x u) && ltb (place u) (place t))
  holds_before x t l e = rw (entries_before order place f n t l.0 l.1 e) (bool (holds x (entries order place f (place t)))
      (λ y. y ∙ sym (holds_one x (entries order place f (place t)) y (λ u m z. entries_out order place f (place t) u m
      (λ a o w. any_intro 64 test u (numbered u (let b = l.0 in omega arith, o)) (rw (w, z) (lt-ltb (place u) (place t) a))))))
      (λ y. y ∙ sym (any_fails 64 test (λ u a. bool (f u)
      (λ w. below? (place u) (place t)
      (λ b. let p = placed u w in rw (w, holds_mem x (entries order place f (place t)) u y (entries_in order place f (place t) u b p.1 w)))
      (λ b. rw (le-ltb (place u) (place t) b) (and-false (f u && x u))))
      (λ w. rw w)))))
    where
      test : ℕ → Bool
      test u = (f u && x u) && ltb (place u) (place t)
