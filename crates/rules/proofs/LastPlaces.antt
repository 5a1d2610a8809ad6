-- The saves by last place as entries that ask nothing: who is among them, and what a new place does to them.
use Prim.Native.Nat.{ℕ, zero, suc, ◌+◌, ◌≤◌, ◌<◌}
use mathlib.Core.Path.{◌≡◌, refl, sym, ap, ◌∙◌}
use mathlib.Core.Bool.{Bool, true, false, ◌&&◌, and-true}
use mathlib.Core.Logic.{◌≢◌}
use mathlib.Core.List.{List, [], ◌∷◌, ◌++◌}
use native.Mathlib.Omega.{arith}
use native.Mathlib.Nat.{le_refl}
use lib.ListN.{length, length-append}
use lib.Dec.{eqb, ltb}
use borrow.Author.Tests.{eqb-true, eq-eqb, ne_eqb, lt-ltb, le-ltb, ltb-true, ltb-false}
use Rattle.rules.specs.Table.{upd}
use Rattle.rules.specs.Sizes.{max_saves}
use Rattle.rules.specs.State.{at, is_last, by_last}
use Rattle.rules.specs.Steps.{mem, without}
use Rattle.rules.proofs.Table.{bool, same?, upd_same, sum, sum_le, sum_falls, sum_bound, one, one_one}
use Rattle.rules.proofs.Places.{without_snoc, by, entries, entries_in, entries_out, entries_without, entries_moved, snoc_old, snoc_new}

abbrev anyone : ℕ → Bool
anyone u = true

pub by_last_entries : (order : List ℕ) (place : ℕ → ℕ) (p : ℕ) → by_last order place p ≡ entries order place anyone p
unfolding by_last entries by
by_last_entries order place zero = refl
by_last_entries order place (suc p) = rw (by_last_entries order place p, and-true (is_last order place p))

module _ (order : List ℕ) (place : ℕ → ℕ) where
  -- ---- Who is among them

  pub last_in : (p t : ℕ) → place t < p → at order (place t) ≡ t → mem t (by_last order place p) ≡ true
  last_in p t h e = rw (by_last_entries order place p) (entries_in order place anyone p t h e refl)

  pub last_out : {P : Type 0} (p t : ℕ) → mem t (by_last order place p) ≡ true → (place t < p → at order (place t) ≡ t → P) → P
  last_out p t e k = entries_out order place anyone p t (rw (by_last_entries order place p) at e) (λ h o _. k h o)

  -- ---- One place more

  pub last_here : (p : ℕ) → place (at order p) ≡ p → by_last order place (suc p) ≡ by_last order place p ++ at order p ∷ []
  unfolding by_last
  last_here p e = rw (eq-eqb (place (at order p)) p e)

  pub last_former : (p : ℕ) → eqb (place (at order p)) p ≡ false → by_last order place (suc p) ≡ by_last order place p
  unfolding by_last
  last_former p e = rw e

  -- those before a place come first
  pub last_front : (p n : ℕ) → p ≤ n → (rest : List ℕ) × (by_last order place n ≡ by_last order place p ++ rest)
  unfolding by_last
  last_front p zero h = ([], let e : p ≡ 0 = omega arith in rw e)
  last_front p (suc n) h =
      same? p (suc n)
      (λ e. ([], rw e (sym (append-nil (by_last order place (suc n))))))
      (λ d. let r = last_front p n (omega arith) in
      bool (is_last order place n)
      (λ e. (r.0 ++ at order n ∷ [], rw (e, r.1) (append_assoc (by_last order place p) r.0 (at order n ∷ []))))
      (λ e. (r.0, rw e r.1)))
    where
      append-nil : (l : List ℕ) → l ++ [] ≡ l
      append-nil [] = refl
      append-nil (x ∷ l) = rw (append-nil l)

      append_assoc : (l m n : List ℕ) → (l ++ m) ++ n ≡ l ++ (m ++ n)
      append_assoc [] m n = refl
      append_assoc (x ∷ l) m n = rw (append_assoc l m n)

  -- only the places before it count
  pub last_cong : (other : List ℕ) (p : ℕ) → ((q : ℕ) → q < p → at order q ≡ at other q) → by_last order place p ≡ by_last other place p
  unfolding by_last
  last_cong other zero h = refl
  last_cong other (suc p) h = rw (h p (le_refl (suc p)), last_cong other p (λ q l. h q (omega arith)))

  -- ---- Save t takes a new place at the end

  pub last_moved : (t p : ℕ) → p ≤ length order → by_last (order ++ t ∷ []) (upd place t (length order)) p ≡ without t (by_last order place p)
  last_moved t p h =
      by_last_entries (order ++ t ∷ []) (upd place t (length order)) p
      ∙ sym (entries_moved order place t anyone anyone p h (λ u _. refl))
      ∙ sym (entries_without order place anyone t p)
      ∙ ap (without t) (sym (by_last_entries order place p))

  pub last_new : (t : ℕ) → by_last (order ++ t ∷ []) (upd place t (length order)) (suc (length order)) ≡ without t (by_last order place (length order)) ++ t ∷ []
  unfolding by_last
  last_new t =
      rw (snoc_new order place t, upd_same place t (length order), eq-eqb (length order) (length order) refl)
      (ap (λ l. l ++ t ∷ []) (last_moved t (length order) (le_refl (length order))))

  -- a save that has a last place is one of them from there on
  pub last_fewer : (t p : ℕ) → at order (place t) ≡ t → length (without t (by_last order place p)) + one (ltb (place t) p) ≡ length (by_last order place p)
  unfolding by_last
  last_fewer t zero e = rw (le-ltb (place t) 0 (omega arith))
  last_fewer t (suc p) e =
      let ih = last_fewer t p e in
      same? (place t) p
      (λ r. let a : at order p ≡ t = rw r at e in
      let b : length (without t (by_last order place p)) + 0 ≡ length (by_last order place p) = rw (r, le-ltb p p (le_refl p)) at ih in
      rw (a, r, eq-eqb p p refl, lt-ltb p (suc p) (le_refl (suc p)), without_snoc t (by_last order place p) t, eq-eqb t t refl, length-append) (omega arith))
      (λ r. rw (later r) (bool (is_last order place p)
      (λ y. let n : at order p ≢ t = λ z. r (rw z at (eqb-true (place (at order p)) p y)) in
      rw (y, without_snoc t (by_last order place p) (at order p), ne_eqb (at order p) t n, length-append, length-append) (omega (arith, ih)))
      (λ y. rw y ih)))
    where
      later : place t ≢ p → ltb (place t) (suc p) ≡ ltb (place t) p
      later r = bool (ltb (place t) p) (λ y. rw (y, lt-ltb (place t) (suc p) (omega (arith, ltb-true (place t) p y)))) (λ y. rw (y, le-ltb (place t) (suc p) (past (ltb-false (place t) p y))))
        where
          past : p ≤ place t → suc p ≤ place t
          past o = omega arith

  -- ---- They are no more than the saves, whatever the places

  abbrev stood : ℕ → ℕ → Bool
  stood p t = ltb (place t) p && eqb (at order (place t)) t

  stood_more : (p t : ℕ) → one (stood p t) ≤ one (stood (suc p) t)
  stood_more p t = bool (ltb (place t) p) (λ e. rw (e, lt-ltb (place t) (suc p) (omega (arith, ltb-true (place t) p e))) (le_refl (one (eqb (at order (place t)) t)))) (λ e. rw e (omega arith))

  last_stood : (m p : ℕ) → ((q : ℕ) → q < p → at order q < m) → length (by_last order place p) ≤ sum m (λ t. one (stood p t))
  unfolding by_last
  last_stood m zero h = omega arith
  last_stood m (suc p) h =
      bool (is_last order place p)
      (λ e. let z = eqb-true (place (at order p)) p e in
      rw (e, length-append) (omega (
        arith,
        last_stood m p (λ q o. h q (omega arith)),
        sum_falls m (λ t. one (stood p t)) (λ t. one (stood (suc p) t)) 1 (at order p) (h p (le_refl (suc p)))
            (rw (z, le-ltb p p (le_refl p), lt-ltb p (suc p) (le_refl (suc p)), eq-eqb (at order p) (at order p) refl) (le_refl 1)) (λ t _ _. stood_more p t),
      )))
      (λ e. rw e (omega (arith, last_stood m p (λ q o. h q (omega arith)), sum_le m (λ t. one (stood p t)) (λ t. one (stood (suc p) t)) (λ t _. stood_more p t))))

  pub lasts_few : (p : ℕ) → ((q : ℕ) → q < p → at order q < max_saves) → length (by_last order place p) ≤ max_saves
  lasts_few p h = omega (
    arith,
    last_stood max_saves p h,
    sum_bound max_saves 1 (λ t. one (stood p t)) (λ t _. one_one (stood p t)),
  )

-- and one more finds room among the others
pub lasts_room : (order : List ℕ) (place : ℕ → ℕ) (t : ℕ) → ((q : ℕ) → q < length order → at order q < max_saves) → t < max_saves
    → length (without t (by_last order place (length order))) < max_saves
lasts_room order place t h ht =
    let e : length (without t (by_last order place (length order)) ++ t ∷ []) ≤ max_saves = rw (← last_new order place t)
    (lasts_few (order ++ t ∷ []) (upd place t (length order)) (suc (length order))
    (λ q l. same? q (length order) (λ z. rw (z, snoc_new order place t) ht) (λ z. rw (snoc_old order place t q (omega arith)) (h q (omega arith))))) in
    omega (arith, rw length-append at e)
