-- SUBMIT of a first or a wide run keeps the invariant: t loses its entries, has stored nothing, and its new place is behind all others.
use Prim.Native.Nat.{ℕ, suc, ◌+◌, ◌≤◌, ◌<◌}
use mathlib.Core.Path.{◌≡◌, refl, sym, ap, ◌∙◌}
use mathlib.Core.Bool.{true, false, true≢false}
use mathlib.Core.Logic.{◌≢◌}
use mathlib.Core.List.{[], ◌∷◌, ◌++◌}
use mathlib.Core.Option.{Option, some}
use native.Mathlib.Omega.{arith}
use native.Mathlib.Nat.{le_refl}
use lib.ListN.{length}
use Rattle.rules.specs.Sizes.{max_saves}
use Rattle.rules.specs.State.{submitted, Mark, absent, copied, written, Claim, unclaimed, shared, exclusive, State, is_committed, running, has_copy, is_written, claims, is_x, wider, join_claim, joined_claim, wide_by, wide, at}
use Rattle.rules.specs.Steps.{without, join_order}
use Rattle.rules.specs.Serial.{History, join}
use Rattle.rules.proofs.Table.{same?, clash, upd_same, upd_other, upd_at, row_same, row_other, any_at, sum_falls}
use Rattle.rules.proofs.Places.{entries_without, entries_moved, snoc_old, snoc_new, snoc_long, fold_moved, fold_moved_all}
use Rattle.rules.proofs.Invariant.{joined, rank, level, RunsOf, Stands, Places, Copies, Locks, live, Queues, Linked, storing, stores, Values, Inv}
use Rattle.rules.proofs.Phases.{not_over, running_not_over, x_claims, not_applied}

join_claims : (c : Claim) (m : Mark) → has_copy m ≡ true → claims (join_claim c m) ≡ true
join_claims c absent e = absurd (true≢false (sym e))
join_claims unclaimed copied e = refl
join_claims shared copied e = refl
join_claims exclusive copied e = refl
join_claims c written e = refl

join_from : {P : Type 0} (c : Claim) (m : Mark) → claims (join_claim c m) ≡ true → (claims c ≡ true → P) → (has_copy m ≡ true → P) → P
join_from c absent e f g = f e
join_from c copied e f g = g refl
join_from c written e f g = g refl

join_x : (c : Claim) (m : Mark) → is_written m ≡ true → is_x (join_claim c m) ≡ true
join_x c absent e = absurd (true≢false (sym e))
join_x c copied e = absurd (true≢false (sym e))
join_x c written e = refl

join_rank : (c : Claim) (m : Mark) → rank c ≤ rank (join_claim c m)
join_rank c absent = le_refl (rank c)
join_rank unclaimed copied = omega arith
join_rank shared copied = omega arith
join_rank exclusive copied = omega arith
join_rank unclaimed written = omega arith
join_rank shared written = omega arith
join_rank exclusive written = omega arith

join_rises : (c : Claim) (m : Mark) → wider c m ≡ true → rank c + 1 ≤ rank (join_claim c m)
join_rises c absent e = absurd (true≢false (sym e))
join_rises unclaimed copied e = omega arith
join_rises shared copied e = absurd (true≢false (sym e))
join_rises exclusive copied e = absurd (true≢false (sym e))
join_rises unclaimed written e = omega arith
join_rises shared written e = omega arith
join_rises exclusive written e = absurd (true≢false (sym e))

module _ (s : State) (t : ℕ) where
  abbrev claim' : ℕ → ℕ → Claim
  claim' = joined_claim s.claim s.mark t

  same_row : (k : ℕ) → claim' t k ≡ join_claim (s.claim t k) (s.mark t k)
  same_row k = row_same s.claim t (λ k. join_claim (s.claim t k) (s.mark t k)) k

  -- the claim of a wide run grows
  pub level_rises : wide s t ≡ true → level s.header.sheets (s.claim t) + 1 ≤ level s.header.sheets (claim' t)
  unfolding wide_by
  level_rises w = any_at s.header.sheets (λ k. wider (s.claim t k) (s.mark t k)) w (λ k o y.
      sum_falls s.header.sheets (λ k. rank (s.claim t k)) (λ k. rank (claim' t k)) 1 k o
      (rw (same_row k) (join_rises (s.claim t k) (s.mark t k) y))
      (λ j _ _. rw (same_row j) (join_rank (s.claim t j) (s.mark t j))))

module _ (s : State) (l : History) (r : ℕ → ℕ → Option ℕ) (t : ℕ) (v : Inv s l r) (ht : t < max_saves) (y : running (s.phase t) ≡ true)
    (few : RunsOf submitted (s.runs t) (level s.header.sheets (joined_claim s.claim s.mark t t))) where
  abbrev n : ℕ
  n = length s.order

  abbrev s' : State
  s' = join_order s t

  idle : is_committed (s.phase t) ≡ false
  idle = not_over (s.phase t) (running_not_over (s.phase t) y)

  nowhere : (m : ℕ) → l.applied m t ≡ false
  nowhere m = not_applied t m (running_not_over (s.phase t) y) v.locks

  new_stands : Stands s'.order s'.place t
  new_stands = (rw (upd_same s.place t n, snoc_long s.order s.place t) (le_refl (suc n)), rw (upd_same s.place t n) (snoc_new s.order s.place t))

  old_stands : (u : ℕ) → u ≢ t → Stands s.order s.place u → Stands s'.order s'.place u
  old_stands u d w = (
    rw (upd_other s.place t n u d, snoc_long s.order s.place t) (omega (arith, w.0)),
    rw (upd_other s.place t n u d, snoc_old s.order s.place t (s.place u) w.0) w.1,
  )

  late : (k : ℕ) → n < s.taken (s.header.owner k) → ⊥
  late k h = omega (arith, v.places.bound (s.header.owner k))

  keeps_places : Places s'.order s'.phase s'.place s'.claim s'.taken
  keeps_places = record {
    stands = λ u y. same? u t (λ e. rw e new_stands) (λ d. old_stands u d (v.places.stands u (simp upd_other at y)));
    claim_stands = λ u k y. same? u t (λ e. rw e new_stands) (λ d. old_stands u d (v.places.claim_stands u k (simp row_other at y)));
    claim_joined = λ u k y. same? u t (λ e. rw (e, upd_same s.phase t submitted)) (λ d. simp upd_other (v.places.claim_joined u k (simp row_other at y)));
    placed = λ q h. split q h (λ o. rw (snoc_old s.order s.place t q o) (upd_at (λ x. joined x ≡ true) s.phase t submitted (at s.order q) (λ _. refl) (λ _. v.places.placed q o))) (λ e. rw (e, snoc_new s.order s.place t, upd_same s.phase t submitted));
    bound = λ m. rw (snoc_long s.order s.place t) (omega (arith, v.places.bound m));
    small = λ u y. same? u t (λ e. rw e ht) (λ d. v.places.small u (simp upd_other at y));
  }
    where
      split : {P : Type 0} (q : ℕ) → q < length (s.order ++ t ∷ []) → (q < n → P) → (q ≡ n → P) → P
      split q h f g = let h' = rw (snoc_long s.order s.place t) at h in same? q n g (λ d. f (omega arith))

  keeps_copies : Copies s'.header.sheets s'.phase s'.mark s'.claim
  keeps_copies = record {
    copied_range = v.copies.copied_range;
    claim_range = λ u k. same? u t
        (λ e. rw (e, same_row s t k) (λ y. join_from (s.claim t k) (s.mark t k) y (v.copies.claim_range t k) (v.copies.copied_range t k)))
        (λ d. simp row_other (v.copies.claim_range u k));
    copied_claimed = λ u k. same? u t
        (λ e. rw (e, same_row s t k) (λ _. join_claims (s.claim t k) (s.mark t k)))
        (λ d. simp (upd_other, row_other) (v.copies.copied_claimed u k));
    written_x = λ u k. same? u t
        (λ e. rw (e, same_row s t k) (λ _. join_x (s.claim t k) (s.mark t k)))
        (λ d. simp (upd_other, row_other) (v.copies.written_x u k));
    unused_absent = λ u k. same? u t (λ e. rw (e, upd_same s.phase t submitted) (λ y. absurd (true≢false (sym y)))) (λ d. simp upd_other (v.copies.unused_absent u k));
  }

  keeps_locks : Locks s'.header.owner s'.phase s'.place s'.claim s'.failed s'.taken l.applied
  keeps_locks = record {
    applied_over = λ m u y. same? u t (λ e. clash (l.applied m t) (rw e at y) (nowhere m)) (λ d. simp upd_other (v.locks.applied_over m u y));
    applied_taken = λ m u y. same? u t (λ e. clash (l.applied m t) (rw e at y) (nowhere m)) (λ d. simp upd_other (v.locks.applied_taken m u y));
    settled = λ x u k. same? x t
        (λ e. rw e (simp upd_same (λ y. absurd (late k y.1))))
        (λ d. same? u t
        (λ e. rw (e, upd_same s.place t n) (simp (upd_other, row_other) (λ y c o _. absurd (too_far o (v.places.claim_stands x k c).0))))
        (λ d'. simp (upd_other, row_other) (v.locks.settled x u k)));
    alone = λ x u k. same? x t
        (λ e. rw e (simp upd_same (λ y. absurd (true≢false (sym y)))))
        (λ d. same? u t
        (λ e. rw (e, upd_same s.place t n) (simp (upd_other, row_other) (λ y c o _. absurd (too_far o (v.places.claim_stands x k (x_claims (s.claim x k) c)).0))))
        (λ d'. simp (upd_other, row_other) (v.locks.alone x u k)));
  }
    where
      too_far : {p : ℕ} → n < p → p < n → ⊥
      too_far o y = omega arith

  keeps_queues : Queues s'.header.owner s'.order s'.place s'.claim s'.taken l.applied s'.queue
  unfolding live
  keeps_queues k =
      ap (without t) (v.queues k) ∙ entries_without s.order s.place (live s.header.owner s.claim l.applied k) t (s.taken (s.header.owner k))
      ∙ entries_moved s.order s.place t (live s.header.owner s'.claim l.applied k) (live s.header.owner s.claim l.applied k)
      (s.taken (s.header.owner k)) (v.places.bound (s.header.owner k)) (λ u d. simp row_other)

  keeps_linked : Linked s'.header.sheets s'.order s'.place s'.phase s'.mark s'.copy s'.claim s'.runs (join l t) r
  unfolding wide_by
  keeps_linked = record {
    order_same = rw v.linked.order_same;
    place_same = rw (v.linked.place_same, v.linked.order_same);
    claim_same = rw (v.linked.claim_same, v.linked.mark_same);
    wide_same = λ x. same? x t (λ e. rw (e, upd_same s.phase t submitted) (λ z. absurd (true≢false (sym z)))) (λ d. simp (upd_other, row_other) (v.linked.wide_same x));
    mark_same = v.linked.mark_same;
    runs_same = v.linked.runs_same;
    commit_same = λ x. upd_at (λ y. l.committed x ≡ is_committed y) s.phase t submitted x (λ e. rw (e, v.linked.commit_same t) idle) (λ _. v.linked.commit_same x);
    last_same = v.linked.last_same;
    runs_right = λ x. same? x t (λ e. rw (e, upd_same s.phase t submitted) few) (λ d. simp (upd_other, row_other) (v.linked.runs_right x));
    unread = v.linked.unread;
  }

  keeps_values : Values s' l.applied r
  unfolding storing stores
  keeps_values = record {
    sheet_is = λ k. v.values.sheet_is k ∙ sym (fold_moved_all s.order s.place t (storing s' l.applied k) (storing s l.applied k) (λ u. (s.copy u k).content)
        (simp upd_same) (rw idle) (λ u d. simp upd_other));
    behind = v.values.behind;
    current = v.values.current;
    reads = λ x k. same? x t
        (λ e. rw e (simp upd_same (λ y c z. absurd (late k z.1))))
        (λ d. simp (upd_other, row_other) (λ y c z. v.values.reads x k y c z ∙ sym (ap (λ c. some c.content)
        (fold_moved s.order s.place t (stores s' k) (stores s k) (λ u. (s.copy u k).content) (s.place x) (omega (arith, (v.places.claim_stands x k c).0)) (rw idle) (λ u d. simp upd_other)))));
  }

  pub keeps_join : Inv s' (join l t) r
  keeps_join = record { places = keeps_places; copies = keeps_copies; locks = keeps_locks; queues = keeps_queues; linked = keeps_linked; values = keeps_values }
