-- TAKE keeps the invariant: where the node finds the save valid, every earlier X there is carried out and the copy is current.
use Prim.Native.Nat.{ℕ, suc, ◌≤◌, ◌<◌}
use mathlib.Core.Path.{◌≡◌, refl, sym, ap, ◌∙◌}
use mathlib.Core.Bool.{Bool, true, false, ◌&&◌, ◌||◌, true≢false, and-true}
use mathlib.Core.Logic.{◌≢◌}
use mathlib.Core.Option.{Option, some}
use native.Mathlib.Omega.{arith}
use lib.ListN.{length}
use lib.Dec.{ltb}
use borrow.Author.Tests.{eq-eqb, ne_eqb, ltb-false}
use Rattle.rules.specs.Table.{upd}
use Rattle.rules.specs.State.{Phase, unused, first, submitted, second, committed, dropped, State, has_copy, claims, is_x, at}
use Rattle.rules.specs.Steps.{holds, x_on, owns, fails_at, finds_invalid, take_save, move_on}
use Rattle.rules.specs.Serial.{History}
use Rattle.rules.proofs.Table.{bool, same?, below?, upd_same, upd_other, upd_at, any_none}
use Rattle.rules.proofs.Places.{by, by_former, entries, or_l, or_r, holds_mem, entries_in}
use Rattle.rules.proofs.Invariant.{Sure, Places, live, Queues, storing, stores, serial_at, Values, Inv}
use Rattle.rules.proofs.Phases.{x_claims, live_not, sheet_shown}

-- sure after the TAKE: sure before it, or submitted, found valid and taken by now
sure_cases : {P : Type 0} (ph : Phase) (f f' : Bool) (p m m' : ℕ) → Sure ph f' p m' → (Sure ph f p m → P) → (ph ≡ submitted → f' ≡ false → p < m' → P) → P
sure_cases unused f f' p m m' x y z = absurd x
sure_cases first f f' p m m' x y z = absurd x
sure_cases submitted f f' p m m' x y z = z refl x.0 x.1
sure_cases second f f' p m m' x y z = y tt
sure_cases committed f f' p m m' x y z = y tt
sure_cases dropped f f' p m m' x y z = absurd x

module _ (s : State) (l : History) (r : ℕ → ℕ → Option ℕ) (n : ℕ) (v : Inv s l r) (hn : s.taken n < length s.order) where
  abbrev a : ℕ → ℕ
  a = at s.order

  abbrev t : ℕ
  t = a (s.taken n)

  abbrev own : ℕ → ℕ
  own = s.header.owner

  abbrev taken' : ℕ → ℕ
  taken' = upd s.taken n (suc (s.taken n))

  -- after the TAKE a save is sure at k because it was, or because it is the one taken
  sure_now : {P : Type 0} (failed' : ℕ → Bool) (x k : ℕ) → (failed' x ≡ false → s.failed x ≡ false) → claims (s.claim x k) ≡ true → Sure (s.phase x) (failed' x) (s.place x) (taken' (own k))
      → (Sure (s.phase x) (s.failed x) (s.place x) (s.taken (own k)) → P) → (own k ≡ n → x ≡ t → s.place x ≡ s.taken n → failed' x ≡ false → P) → P
  sure_now failed' x k was_ok c w y z =
      sure_cases (s.phase x) (s.failed x) (failed' x) (s.place x) (s.taken (own k)) (taken' (own k)) w y
      (λ sub ok o. below? (s.place x) (s.taken (own k))
      (λ lt. y (rw sub (was_ok ok, lt)))
      (λ ge. same? (own k) n
      (λ e. let q : s.place x ≡ s.taken n = here e ge o in z e (sym (v.places.claim_stands x k c).1 ∙ ap a q) q ok)
      (λ d. absurd (not_here ge (rw (upd_other s.taken n (suc (s.taken n)) (own k) d) at o)))))
    where
      here : own k ≡ n → s.taken (own k) ≤ s.place x → s.place x < taken' (own k) → s.place x ≡ s.taken n
      here e ge o = let o' : s.place x < suc (s.taken n) = rw (e, upd_same s.taken n (suc (s.taken n))) at o in let ge' : s.taken n ≤ s.place x = rw e at ge in omega arith

      not_here : s.taken (own k) ≤ s.place x → s.place x < s.taken (own k) → ⊥
      not_here ge o = omega arith

  taken_more : (m x : ℕ) → x < s.taken m → x < taken' m
  taken_more m x h = upd_at (λ y. x < y) s.taken n (suc (s.taken n)) m (λ e. omega (arith, rw e at h)) (λ _. h)

  keeps_places : Places s.order s.phase s.place s.claim taken'
  keeps_places = record {
    stands = v.places.stands;
    claim_stands = v.places.claim_stands;
    claim_joined = v.places.claim_joined;
    placed = v.places.placed;
    bound = λ m. upd_at (λ x. x ≤ length s.order) s.taken n (suc (s.taken n)) m (λ _. hn) (λ _. v.places.bound m);
    small = v.places.small;
  }

  -- ---- a former place

  module _ (former : s.place t ≢ s.taken n) where
    abbrev m' : State
    m' = move_on s n

    sure_before : (x k : ℕ) → claims (s.claim x k) ≡ true → Sure (s.phase x) (s.failed x) (s.place x) (taken' (own k)) → Sure (s.phase x) (s.failed x) (s.place x) (s.taken (own k))
    sure_before x k c w = sure_now s.failed x k (λ y. y) c w (λ y. y) (λ e z q _. absurd (former (ap s.place (sym z) ∙ q)))

    pub keeps_move_on : Inv m' l r
    unfolding entries storing stores
    keeps_move_on = record {
      places = keeps_places;
      copies = v.copies;
      locks = record {
        applied_over = v.locks.applied_over;
        applied_taken = λ m u y. taken_more m (s.place u) (v.locks.applied_taken m u y);
        settled = λ x u k w c. v.locks.settled x u k (sure_before x k c w) c;
        alone = v.locks.alone;
      };
      queues = λ k. same? (own k) n
          (λ e. rw (e, upd_same s.taken n (suc (s.taken n)), by_former s.order s.place (live own s.claim l.applied k) (s.taken n) former)
          (v.queues k ∙ ap (λ m. entries s.order s.place (live own s.claim l.applied k) (s.taken m)) e))
          (λ d. rw (upd_other s.taken n (suc (s.taken n)) (own k) d) (v.queues k));
      linked = v.linked;
      values = record {
        sheet_is = v.values.sheet_is;
        behind = v.values.behind;
        current = v.values.current;
        reads = λ x k y c w. v.values.reads x k y c (sure_before x k c w);
      };
    }

  -- ---- a last place

  module _ (last : s.place t ≡ s.taken n) where
    abbrev s' : State
    s' = take_save s n t

    not_applied : l.applied n t ≡ false
    not_applied = bool (l.applied n t) (λ y. absurd (le_irr (rw last at (v.locks.applied_taken n t y)))) (λ y. y)
      where
        le_irr : {m : ℕ} → m < m → ⊥
        le_irr h = omega arith

    -- what the node found, sheet by sheet
    fine : (k : ℕ) → finds_invalid s n t ≡ false → own k ≡ n → claims (s.claim t k) ≡ true → holds (x_on s.claim k) (s.queue k) || (has_copy (s.mark t k) && ltb (s.copy t k).wct (s.sheet k).wct) ≡ false
    fine k f e c = rw (eq-eqb (own k) n e, c) at (any_none s.header.sheets (λ k. owns s n k && fails_at s t k) f k (v.copies.claim_range t k c))

    valid_now : {P : Type 0} (x k : ℕ) → claims (s.claim x k) ≡ true → Sure (s.phase x) (s'.failed x) (s.place x) (taken' (own k))
        → (Sure (s.phase x) (s.failed x) (s.place x) (s.taken (own k)) → P) → (own k ≡ n → x ≡ t → finds_invalid s n t ≡ false → P) → P
    valid_now x k c w y z = sure_now s'.failed x k was_ok c w y (λ e q _ ok. z e q (or_r (s.failed t) (finds_invalid s n t) (rw (q, upd_same s.failed t (s.failed t || finds_invalid s n t)) at ok)))
      where
        was_ok : s'.failed x ≡ false → s.failed x ≡ false
        was_ok = upd_at (λ b. b ≡ false → s.failed x ≡ false) s.failed t (s.failed t || finds_invalid s n t) x
            (λ e f. rw e (or_l (s.failed t) (finds_invalid s n t) f)) (λ _ f. f)

    -- a save that this TAKE found valid: every X before it is carried out
    cleared : (u k : ℕ) → finds_invalid s n t ≡ false → own k ≡ n → claims (s.claim t k) ≡ true → s.place u < s.place t → is_x (s.claim u k) ≡ true → l.applied (own k) u ≡ true
    unfolding x_on
    cleared u k f e c o x =
        let st = v.places.claim_stands u k (x_claims (s.claim u k) x) in
        live_not own s.claim l.applied k u (x_claims (s.claim u k) x) (λ y. true≢false (sym x ∙ holds_mem (x_on s.claim k) (s.queue k) u
        (or_l (holds (x_on s.claim k) (s.queue k)) (has_copy (s.mark t k) && ltb (s.copy t k).wct (s.sheet k).wct) (fine k f e c))
        (rw (v.queues k) (entries_in s.order s.place (live own s.claim l.applied k) (s.taken (own k)) u (rw (e, ← last) o) st.1 y))))

    keeps_queues : Queues own s.order s.place s.claim s'.taken l.applied s'.queue
    unfolding entries live by
    keeps_queues k =
        same? (own k) n
        (λ e. rw (eq-eqb (own k) n e, e, upd_same s.taken n (suc (s.taken n))) (
        let L : ℕ → Bool = live own s.claim l.applied k in
        let q : s.queue k ≡ entries s.order s.place L (s.taken n) = v.queues k ∙ ap (λ m. entries s.order s.place L (s.taken m)) e in
        let w : by s.order s.place L (s.taken n) ≡ claims (s.claim t k) = rw (eq-eqb (s.place t) (s.taken n) last, e, not_applied) (and-true (claims (s.claim t k))) in
        rw (q, w)))
        (λ d. rw (ne_eqb (own k) n d, upd_other s.taken n (suc (s.taken n)) (own k) d) (v.queues k))

    keeps_values : Values s' l.applied r
    unfolding storing stores
    keeps_values = record {
      sheet_is = v.values.sheet_is;
      behind = v.values.behind;
      current = v.values.current;
      reads = λ x k y c w. valid_now x k c w (v.values.reads x k y c) (λ e q f. rw q (valid k (rw q at y) (rw q at c) e f));
    }
      where
        valid : (k : ℕ) → has_copy (s.mark t k) ≡ true → claims (s.claim t k) ≡ true → own k ≡ n → finds_invalid s n t ≡ false → r t k ≡ some (serial_at s k (s.place t)).content
        valid k y c e f =
            let w : (s.sheet k).wct ≤ (s.copy t k).wct = ltb-false (s.copy t k).wct (s.sheet k).wct (rw y at (or_r (holds (x_on s.claim k) (s.queue k)) (has_copy (s.mark t k) && ltb (s.copy t k).wct (s.sheet k).wct) (fine k f e c))) in
            v.values.current t k y (omega (arith, v.values.behind t k y))
            ∙ ap (λ x. some x.content) (sheet_shown s l.applied r (s.place t) k v.copies v.values (omega (arith, (v.places.claim_stands t k c).0))
            (λ u o _ x. cleared u k f e c o x)
            (λ u o _ x. bool (l.applied (own k) u) (λ z. absurd (too_far (rw last at o) (rw e at (v.locks.applied_taken (own k) u z)))) (λ z. z)))
          where
            too_far : {p q : ℕ} → p ≤ q → q < p → ⊥
            too_far o z = omega arith

    pub keeps_take : Inv s' l r
    keeps_take = record {
      places = keeps_places;
      copies = v.copies;
      locks = record {
        applied_over = v.locks.applied_over;
        applied_taken = λ m u y. taken_more m (s.place u) (v.locks.applied_taken m u y);
        settled = λ x u k w c o y. valid_now x k c w (λ z. v.locks.settled x u k z c o y) (λ e q f. cleared u k f e (rw q at c) (rw q at o) y);
        alone = v.locks.alone;
      };
      queues = keeps_queues;
      linked = v.linked;
      values = keeps_values;
    }
