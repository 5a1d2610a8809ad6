-- APPLY keeps the invariant: the save that stores is the last of those that have, since a later X waits for it.
use Prim.Native.Nat.{ℕ, ◌≤◌, ◌<◌}
use mathlib.Core.Path.{◌≡◌, refl, sym, ap, ◌∙◌}
use mathlib.Core.Bool.{Bool, true, false, ◌&&◌, and-false, and-true}
use mathlib.Core.Option.{Option, some}
use native.Mathlib.Omega.{arith}
use lib.ListN.{length}
use borrow.Author.Tests.{eqb-true, eq-eqb, ne_eqb}
use Rattle.rules.specs.Table.{upd2}
use Rattle.rules.specs.State.{store, State, is_committed, over, is_written, is_x, at}
use Rattle.rules.specs.Steps.{owns, receives, apply_save}
use Rattle.rules.specs.Serial.{History, carry_out}
use Rattle.rules.proofs.Table.{bool, same?, cond_at, clash, upd2_at, upd2_same, upd2_other, and_l, and_r}
use Rattle.rules.proofs.Places.{entries_cong, entries_without, fold_cong, fold_one}
use Rattle.rules.proofs.Invariant.{Stands, Locks, live, Queues, storing, stores, left_by, Inv}
use Rattle.rules.proofs.Storing.{store_rises, store_same}
use Rattle.rules.proofs.Phases.{committed_locked, committed_closed, x_claims}

module _ (s : State) (l : History) (r : ℕ → ℕ → Option ℕ) (n t : ℕ) (v : Inv s l r) (end : over (s.phase t) ≡ true) (st : Stands s.order s.place t)
    (hp : s.place t < s.taken n) (fresh : l.applied n t ≡ false) where
  abbrev a : ℕ → ℕ
  a = at s.order

  abbrev own : ℕ → ℕ
  own = s.header.owner

  abbrev s' : State
  s' = apply_save s n t

  abbrev done : ℕ → ℕ → Bool
  done = upd2 l.applied n t true

  still : (m u : ℕ) → l.applied m u ≡ true → done m u ≡ true
  still m u y = upd2_at (λ b. b ≡ true) l.applied n t true m u (λ _ _. refl) (λ _. y)

  keeps_locks : Locks own s.phase s.place s.claim s.failed s.taken done
  keeps_locks = record {
    applied_over = λ m u. upd2_at (λ b. b ≡ true → over (s.phase u) ≡ true) l.applied n t true m u (λ _ r _. rw r end) (λ _. v.locks.applied_over m u);
    applied_taken = λ m u. upd2_at (λ b. b ≡ true → s.place u < s.taken m) l.applied n t true m u (λ r r' _. rw (r, r') hp) (λ _. v.locks.applied_taken m u);
    settled = λ x u k y c o z. still (own k) u (v.locks.settled x u k y c o z);
    alone = λ x u k y c o z. still (own k) u (v.locks.alone x u k y c o z);
  }

  keeps_queues : Queues own s.order s.place s.claim s.taken done s'.queue
  unfolding live
  keeps_queues k =
      same? (own k) n
      (λ r. rw (eq-eqb (own k) n r, v.queues k, entries_without s.order s.place (live own s.claim l.applied k) t (s.taken (own k)))
      (entries_cong s.order s.place _ (live own s.claim done k) (s.taken (own k)) (λ u. same? u t
      (λ z. rw (z, eq-eqb t t refl, r, upd2_same l.applied n t true) (simp and-false))
      (λ z. rw (ne_eqb u t z, upd2_other l.applied n t true (own k) u (λ _. z)) (simp and-true)))))
      (λ r. rw (ne_eqb (own k) n r) (v.queues k ∙ entries_cong s.order s.place _ (live own s.claim done k) (s.taken (own k)) (λ u. rw (upd2_other l.applied n t true (own k) u (λ z _. r z)))))

  -- this APPLY stores to k: t is the last that has
  stores_one : (k : ℕ) → receives s n t k ≡ true → s'.sheet k ≡ left_by s (storing s' done k) k (length s.order)
  unfolding storing
  stores_one k r =
      let here : own k ≡ n = eqb-true (own k) n (and_l (owns s n k) (is_committed (s.phase t) && is_written (s.mark t k)) r) in
      let both = and_r (owns s n k) (is_committed (s.phase t) && is_written (s.mark t k)) r in
      let w : is_written (s.mark t k) ≡ true = and_r (is_committed (s.phase t)) (is_written (s.mark t k)) both in
      let c : is_committed (s.phase t) ≡ true = and_l (is_committed (s.phase t)) (is_written (s.mark t k)) both in
      let x : is_x (s.claim t k) ≡ true = v.copies.written_x t k (committed_closed (s.phase t) c) w in
      rw r (ap (λ c. store c (s.copy t k).content) (v.values.sheet_is k) ∙ sym (
      fold_one s.order s.place (storing s l.applied k) (storing s' done k) (λ u. (s.copy u k).content) t (length s.order) st.0 st.1
      (simp (c, w, here, upd2_same))
      (rw (here, fresh) (simp and-false))
      (λ u d. rw (upd2_other l.applied n t true (own k) u (λ _. d)))
      (λ u o. bool (is_committed (s.phase u))
      (λ c'. bool (is_written (s.mark u k))
      (λ w'. clash (l.applied (own k) t) (v.locks.alone u t k (committed_locked (s.phase u) c') (v.copies.written_x u k (committed_closed (s.phase u) c') w') o (x_claims (s.claim t k) x)) (rw here fresh))
      (λ w'. simp (w', and-false)))
      (λ c'. rw c'))))

  -- it does not: nothing changes there
  stores_none : (k : ℕ) → receives s n t k ≡ false → s'.sheet k ≡ left_by s (storing s' done k) k (length s.order)
  unfolding storing
  stores_none k r =
      rw r (v.values.sheet_is k ∙ fold_cong s.order s.place (storing s l.applied k) (storing s' done k) (λ u. (s.copy u k).content) (λ u. (s.copy u k).content) (length s.order)
      (λ u o. same? (own k) n
      (λ here. same? u t (λ z. let f : is_committed (s.phase t) && is_written (s.mark t k) ≡ false = rw (eq-eqb (own k) n here) at r in rw (z, f)) (λ z. rw (upd2_other l.applied n t true (own k) u (λ _. z))))
      (λ d. rw (upd2_other l.applied n t true (own k) u (λ z _. d z))))
      (λ u o z. refl))

  pub keeps_apply : Inv s' (carry_out l n t) r
  unfolding stores
  keeps_apply = record {
    places = v.places;
    copies = v.copies;
    locks = keeps_locks;
    queues = keeps_queues;
    linked = record {
      order_same = v.linked.order_same;
      place_same = v.linked.place_same;
      claim_same = v.linked.claim_same;
      wide_same = v.linked.wide_same;
      mark_same = v.linked.mark_same;
      runs_same = v.linked.runs_same;
      commit_same = v.linked.commit_same;
      last_same = v.linked.last_same;
      runs_right = v.linked.runs_right;
      unread = v.linked.unread;
    };
    values = record {
      sheet_is = λ k. bool (receives s n t k) (stores_one k) (stores_none k);
      behind = λ u k y. cond_at (λ c. (s.copy u k).wct ≤ c.wct) (receives s n t k) (store (s.sheet k) (s.copy t k).content) (s.sheet k)
          (λ _. omega (arith, v.values.behind u k y, store_rises (s.sheet k) (s.copy t k).content)) (λ _. v.values.behind u k y);
      current = λ u k y. bool (receives s n t k)
          (λ q. rw q (λ z. let w = store_same (s.sheet k) (s.copy t k).content (s.copy u k).wct (v.values.behind u k y) z in v.values.current u k y w.0 ∙ ap some (sym w.1)))
          (λ q. rw q (v.values.current u k y));
      reads = v.values.reads;
    };
  }
