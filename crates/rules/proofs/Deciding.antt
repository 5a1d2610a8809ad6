-- A later run's SUBMIT that is not wide, and DECIDE, keep the invariant.
use Prim.Native.Nat.{ℕ, suc, ◌+◌, ◌≤◌, ◌<◌}
use native.Mathlib.Omega.{arith}
use mathlib.Core.Path.{◌≡◌, refl, sym, ap, ◌∙◌}
use mathlib.Core.Bool.{Bool, true, false, not, ◌||◌, true≢false}
use mathlib.Core.Logic.{◌≢◌}
use mathlib.Core.Option.{Option, none, some}
use lib.ListN.{length}
use borrow.Author.Tests.{not-true, ltb-true}
use Rattle.rules.specs.Table.{row, all}
use Rattle.rules.specs.Sizes.{max_saves}
use Rattle.rules.specs.State.{submitted, second, committed, absent, copied, written, Mark, Claim, unclaimed, shared, exclusive, Tally, State, is_second, is_committed, over, has_copy, is_written, claims, is_x, wider, wide_by, wide}
use Rattle.rules.specs.Steps.{mem, holds, before, x_on, granted_as, granted, has_taken, with_phase, decide_save}
use Rattle.rules.specs.Serial.{History, enters, commit}
use Rattle.rules.proofs.Table.{same?, upd_same, upd_other, upd_at, row_at, row_same, row_other, all_at, any_none, any_fails}
use Rattle.rules.proofs.Places.{fold_own, entries_in, entries_before, holds_mem, empty_mem}
use Rattle.rules.proofs.Invariant.{needs_place, level, RunsOf, Sure, Stands, live, storing, stores, left_by, Inv}
use Rattle.rules.proofs.Phases.{x_claims, written_copied, live_not, runs_most, not_applied, Covers, covered, places_phase, copies_phase, locks_phase, values_phase}

-- ---- A save becomes committed

pub keeps_commit : (s : State) (l : History) (r : ℕ → ℕ → Option ℕ) (t : ℕ) (tally : Tally) → Inv s l r → t < max_saves → over (s.phase t) ≡ false → needs_place (s.phase t) ≡ true
    → Covers s.mark s.claim t
    → ((k : ℕ) → claims (s.claim t k) ≡ true → Sure (s.phase t) (s.failed t) (s.place t) (s.taken (s.header.owner k)))
    → ((u k : ℕ) → is_x (s.claim t k) ≡ true → s.place u < s.place t → claims (s.claim u k) ≡ true → l.applied (s.header.owner k) u ≡ true)
    → Inv (with_phase s t committed tally) (commit l t) r
keeps_commit s l r t tally v ht end np cov sure al = record {
  places = places_phase t committed ht (λ _. refl) (λ _. v.places.stands t np) v.places;
  copies = copies_phase t committed refl (λ _. cov) v.copies;
  locks = locks_phase t committed end (λ u k _ y. v.locks.settled t u k (sure k y) y) (λ u k _. al u k) v.locks;
  queues = v.queues;
  linked = record {
    order_same = v.linked.order_same;
    place_same = v.linked.place_same;
    claim_same = v.linked.claim_same;
    wide_same = λ x. upd_at (λ y. is_second y ≡ true → l.wide x ≡ wide s x) s.phase t committed x (λ _ z. absurd (true≢false (sym z))) (λ _. v.linked.wide_same x);
    mark_same = v.linked.mark_same;
    runs_same = v.linked.runs_same;
    commit_same = λ x. same? x t (λ e. rw e (simp upd_same)) (λ n. simp upd_other (v.linked.commit_same x));
    last_same = v.linked.last_same;
    runs_right = λ x. upd_at (λ y. RunsOf y (s.runs x) (level s.header.sheets (s.claim x))) s.phase t committed x (λ e. runs_most (s.phase x) (s.runs x) (level s.header.sheets (s.claim x)) (v.linked.runs_right x)) (λ n. v.linked.runs_right x);
    unread = v.linked.unread;
  };
  values = values_phase s l.applied r t committed s.runs tally end (λ k y c _. sure k c) (λ _. cov) v.locks v.values;
}

wider_claims : (c : Claim) (m : Mark) → wider c m ≡ false → has_copy m ≡ true → claims c ≡ true
wider_claims unclaimed absent n y = cc
wider_claims unclaimed copied n y = cc
wider_claims unclaimed written n y = cc
wider_claims shared m n y = refl
wider_claims exclusive m n y = refl

wider_x : (c : Claim) (m : Mark) → wider c m ≡ false → is_written m ≡ true → is_x c ≡ true
wider_x unclaimed absent n y = cc
wider_x unclaimed copied n y = cc
wider_x unclaimed written n y = cc
wider_x shared absent n y = cc
wider_x shared copied n y = cc
wider_x shared written n y = cc
wider_x exclusive m n y = refl

-- a run that is not wide keeps within the claim
pub not_wide : (s : State) (l : History) (r : ℕ → ℕ → Option ℕ) (t : ℕ) → Inv s l r → wide s t ≡ false → Covers s.mark s.claim t
unfolding wide_by
not_wide s l r t v n = record {
  reads = λ k y. wider_claims (s.claim t k) (s.mark t k) (within k y) y;
  writes = λ k y. wider_x (s.claim t k) (s.mark t k) (within k (written_copied (s.mark t k) y)) y;
}
  where
    within : (k : ℕ) → has_copy (s.mark t k) ≡ true → wider (s.claim t k) (s.mark t k) ≡ false
    within k y = any_none s.header.sheets (λ k. wider (s.claim t k) (s.mark t k)) n k (v.copies.copied_range t k y)

pub keeps_resubmit : (s : State) (l : History) (r : ℕ → ℕ → Option ℕ) (t : ℕ) (tally : Tally) → Inv s l r → t < max_saves → s.phase t ≡ second → wide s t ≡ false → Inv (with_phase s t committed tally) (commit l t) r
keeps_resubmit s l r t tally v ht u n = keeps_commit s l r t tally v ht (rw u) (rw u) (not_wide s l r t v n) (λ k y. rw u tt) (λ w k x. v.locks.alone t w k (rw u) x)

-- ---- DECIDE

claimed_taken : (c b : Bool) → not c || b ≡ true → c ≡ true → b ≡ true
claimed_taken true b e f = e
claimed_taken false b e f = absurd (true≢false (sym f))

module _ (s : State) (l : History) (r : ℕ → ℕ → Option ℕ) (t : ℕ) (v : Inv s l r) (ht : t < max_saves) (sub : s.phase t ≡ submitted)
    (by_all : all s.header.sheets (λ k. not (claims (s.claim t k)) || has_taken s (s.header.owner k) t) ≡ true)
    (all_granted : all s.header.sheets (λ k. granted s t k) ≡ true) where
  grants : (k : ℕ) → claims (s.claim t k) ≡ true → granted s t k ≡ true
  grants k y = all_at s.header.sheets (λ k. granted s t k) all_granted k (v.copies.claim_range t k y)

  taken_at : (k : ℕ) → claims (s.claim t k) ≡ true → s.place t < s.taken (s.header.owner k)
  taken_at k y = ltb-true (s.place t) (s.taken (s.header.owner k)) (claimed_taken (claims (s.claim t k)) (has_taken s (s.header.owner k) t)
      (all_at s.header.sheets (λ k. not (claims (s.claim t k)) || has_taken s (s.header.owner k) t) by_all k (v.copies.claim_range t k y)) y)

  st : Stands s.order s.place t
  st = v.places.stands t (rw sub)

  abbrev f : ℕ → ℕ → Bool
  f k = live s.header.owner s.claim l.applied k

  alive : (k : ℕ) → claims (s.claim t k) ≡ true → f k t ≡ true
  unfolding live
  alive k y = simp (y, not_applied t (s.header.owner k) (rw sub) v.locks)

  -- a live save of a smaller place stands before t
  in_front : (u k : ℕ) → claims (s.claim t k) ≡ true → claims (s.claim u k) ≡ true → s.place u < s.place t → f k u ≡ true → mem u (before t (s.queue k)) ≡ true
  in_front u k y c o a =
      rw (v.queues k, entries_before s.order s.place (f k) (s.taken (s.header.owner k)) t (taken_at k y) st.1 (alive k y))
      (entries_in s.order s.place (f k) (s.place t) u o (v.places.claim_stands u k c).1 a)

  -- no X that is not carried out stands before t
  no_x : (u k : ℕ) → claims (s.claim t k) ≡ true → s.place u < s.place t → is_x (s.claim u k) ≡ true → l.applied (s.header.owner k) u ≡ true
  unfolding x_on
  no_x u k y o x = live_not s.header.owner s.claim l.applied k u cu (λ a. go (s.claim t k) (grants k y) y (in_front u k y cu o a))
    where
      cu : claims (s.claim u k) ≡ true
      cu = x_claims (s.claim u k) x

      go : (c : Claim) → granted_as c (x_on s.claim k) (before t (s.queue k)) ≡ true → claims c ≡ true → mem u (before t (s.queue k)) ≡ true → ⊥
      go unclaimed g z a = true≢false (sym z)
      go shared g z a = true≢false (sym x ∙ holds_mem (x_on s.claim k) (before t (s.queue k)) u (not-true (holds (x_on s.claim k) (before t (s.queue k))) g) a)
      go exclusive g z a = empty_mem (before t (s.queue k)) u g a

  -- where t is an X, nothing that is not carried out stands before it
  first_in_line : (u k : ℕ) → is_x (s.claim t k) ≡ true → s.place u < s.place t → claims (s.claim u k) ≡ true → l.applied (s.header.owner k) u ≡ true
  first_in_line u k x o y =
      let c = x_claims (s.claim t k) x in
      live_not s.header.owner s.claim l.applied k u y (λ a. go (s.claim t k) (grants k c) x (in_front u k c y o a))
    where
      go : (c : Claim) → granted_as c (x_on s.claim k) (before t (s.queue k)) ≡ true → is_x c ≡ true → mem u (before t (s.queue k)) ≡ true → ⊥
      go unclaimed g z a = true≢false (sym z)
      go shared g z a = true≢false (sym z)
      go exclusive g z a = empty_mem (before t (s.queue k)) u g a

  pub keeps_decide_commit : s.failed t ≡ false → Inv (decide_save false s t) (commit l t) r
  keeps_decide_commit ok = keeps_commit s l r t _ v ht (rw sub) (rw sub) (covered t (rw sub) v.copies) (λ k y. rw (sub, ok) (refl, taken_at k y)) first_in_line

  abbrev d' : State
  d' = decide_save true s t

  idle : is_committed (s.phase t) ≡ false
  idle = rw sub

  -- t stores nothing, before or after
  same_left : (k p : ℕ) (w x : ℕ → Bool) → w t ≡ false → x t ≡ false → ((u : ℕ) → u ≢ t → w u ≡ x u) → left_by s w k p ≡ left_by s x k p
  same_left k p w x e f h = fold_own s.order s.place w x (λ u. (s.copy u k).content) (λ u. (s.copy u k).content) t p e f h (λ u n. refl)

  -- the new run begins without copies
  narrow : wide d' t ≡ false
  unfolding wide_by
  narrow = any_fails s.header.sheets _ (λ k _. rw (row_same s.mark t (λ k. absent) k))

  pub keeps_decide_second : Inv d' (enters l t) (row r t (λ k. none))
  unfolding storing stores wide_by
  keeps_decide_second = record {
    places = places_phase t second ht (λ _. refl) (λ _. st) v.places;
    copies = record {
      copied_range = λ u k. row_at (λ m. has_copy m ≡ true → k < s.header.sheets) s.mark t (λ _. absent) u k (λ _ y. absurd (true≢false (sym y))) (λ _. v.copies.copied_range u k);
      claim_range = v.copies.claim_range;
      copied_claimed = λ u k. same? u t (λ e. rw e (simp (upd_same, row_same) (λ _ y. absurd (true≢false (sym y))))) (λ n. simp (upd_other, row_other) (v.copies.copied_claimed u k));
      written_x = λ u k. same? u t (λ e. rw e (simp (upd_same, row_same) (λ _ y. absurd (true≢false (sym y))))) (λ n. simp (upd_other, row_other) (v.copies.written_x u k));
      unused_absent = λ u k. same? u t (λ e. rw e (simp (upd_same, row_same) (λ _. refl))) (λ n. simp (upd_other, row_other) (v.copies.unused_absent u k));
    };
    locks = locks_phase t second (rw sub) (λ u k _. no_x u k) (λ u k _. first_in_line u k) v.locks;
    queues = v.queues;
    linked = record {
      order_same = v.linked.order_same;
      place_same = v.linked.place_same;
      claim_same = v.linked.claim_same;
      wide_same = λ x. same? x t (λ e. rw e (simp upd_same (λ _. sym narrow))) (λ n. simp (upd_other, row_other) (v.linked.wide_same x));
      mark_same = rw v.linked.mark_same;
      runs_same = rw v.linked.runs_same;
      commit_same = λ x. upd_at (λ y. l.committed x ≡ is_committed y) s.phase t second x (λ e. rw (e, v.linked.commit_same t, sub)) (λ _. v.linked.commit_same x);
      last_same = λ u k. row_at (λ m. is_written m ≡ true → l.last u k ≡ (s.copy u k).content) s.mark t (λ _. absent) u k (λ _ y. absurd (true≢false (sym y))) (λ _. v.linked.last_same u k);
      runs_right = λ x. same? x t (λ e. rw e (simp upd_same (later (s.runs t) (level s.header.sheets (s.claim t)) (rw sub at (v.linked.runs_right t))))) (λ n. simp upd_other (v.linked.runs_right x));
      unread = λ u k. same? u t (λ e. rw e (simp row_same (λ _. refl))) (λ n. simp row_other (v.linked.unread u k));
    };
    values = record {
      sheet_is = λ k. v.values.sheet_is k ∙ sym (same_left k (length s.order) (storing d' l.applied k) (storing s l.applied k)
          (simp upd_same) (rw idle) (λ u n. simp (upd_other, row_other)));
      behind = λ u k. row_at (λ m. has_copy m ≡ true → (s.copy u k).wct ≤ (s.sheet k).wct) s.mark t (λ _. absent) u k (λ _ y. absurd (true≢false (sym y))) (λ _. v.values.behind u k);
      current = λ u k. same? u t (λ e. rw e (simp row_same (λ y. absurd (true≢false (sym y))))) (λ n. simp row_other (v.values.current u k));
      reads = λ u k y c z. same? u t
          (λ e. absurd (true≢false (sym (simp (e, row_same) at y))))
          (λ n. simp row_other (v.values.reads u k (simp row_other at y) c (simp upd_other at z)) ∙ sym (ap (λ c. some c.content) (same_left k (s.place u) (stores d' k) (stores s k)
          (simp upd_same) (rw idle) (λ u n. simp (upd_other, row_other)))));
    };
  }
    where
      later : (m z : ℕ) → (1 ≤ m) × (m ≤ 1 + z) → (2 ≤ suc m) × (suc m ≤ 2 + z)
      later m z h = (omega (arith, h.0), omega (arith, h.1))
