-- From the invariant: serial reads, the serial store, and at most 2 + 2×M runs.
use Prim.Native.Nat.{ℕ, zero, suc, ◌+◌, ◌*◌, ◌≤◌, ◌<◌}
use mathlib.Core.Path.{◌≡◌, refl, sym, ap, ap₂, ◌∙◌}
use mathlib.Core.Bool.{Bool, true, ◌&&◌, true≢false}
use mathlib.Core.List.{List, [], ◌∷◌, foldl-append}
use mathlib.Core.Option.{Option, none, some}
use native.Mathlib.Omega.{arith}
use native.Mathlib.Nat.{le_refl, le_trans, le_of_eq}
use lib.ListN.{length}
use Rattle.rules.specs.Bytes.{Header, Command}
use Rattle.rules.specs.State.{new_sheet, Phase, unused, first, submitted, second, committed, dropped, Claim, unclaimed, shared, exclusive, State, is_committed, has_copy, is_written, claims, at, is_last, by_last}
use Rattle.rules.specs.Serial.{History, turn, turns}
use Rattle.rules.specs.Demand3.{after, told, first_answers, Reads, Store, Runs}
use Rattle.rules.proofs.Table.{bool, and_r, sum_bound}
use Rattle.rules.proofs.Places.{by, fold, fold_cong}
use Rattle.rules.proofs.Invariant.{rank, level, Sure, stores, serial_at, Inv}
use Rattle.rules.proofs.Phases.{committed_closed, committed_placed, runs_most, x_claims, sheet_shown}
use Rattle.rules.proofs.Accepted.{always, header_after}

-- ---- The serial run by places

turns_fold : (l : History) (k : ℕ) (order : List ℕ) (place : ℕ → ℕ) (p : ℕ)
    → turns l k (by_last order place p) ≡ fold order place (λ t. l.committed t && is_written (l.mark t k)) (λ t. l.last t k) p
unfolding fold by turns by_last
turns_fold l k order place zero = refl
turns_fold l k order place (suc p) =
    bool (is_last order place p)
    (λ e. rw (e, foldl-append (turn l k) new_sheet (by_last order place p) (at order p ∷ []), turns_fold l k order place p))
    (λ e. rw (e, turns_fold l k order place p))

pub committed_sure : (p : Phase) (f : Bool) (q m : ℕ) → is_committed p ≡ true → Sure p f q m
committed_sure unused f q m e = true≢false (sym e)
committed_sure first f q m e = true≢false (sym e)
committed_sure submitted f q m e = absurd (true≢false (sym e))
committed_sure second f q m e = tt
committed_sure committed f q m e = tt
committed_sure dropped f q m e = true≢false (sym e)

module _ (s : State) (l : History) (r : ℕ → ℕ → Option ℕ) (v : Inv s l r) where
  -- the state's writers are those that the history tells
  same_serial : (k p : ℕ) → serial_at s k p ≡ turns l k (by_last l.order l.place p)
  unfolding stores
  same_serial k p =
      fold_cong s.order s.place (stores s k) (λ t. l.committed t && is_written (l.mark t k)) (λ t. (s.copy t k).content) (λ t. l.last t k) p
      (λ u o. rw (v.linked.commit_same u, v.linked.mark_same))
      (λ u o e. sym (v.linked.last_same u k (and_r (l.committed u) (is_written (s.mark u k)) (rw v.linked.mark_same at e))))
      ∙ sym (turns_fold l k s.order s.place p)
      ∙ ap₂ (λ (o : List ℕ) (f : ℕ → ℕ). turns l k (by_last o f p)) (sym v.linked.order_same) (sym v.linked.place_same)

  module _ (t k : ℕ) (c : l.committed t ≡ true) where
    cm : is_committed (s.phase t) ≡ true
    cm = sym (v.linked.commit_same t) ∙ c

    pub read_right : (x : ℕ) → r t k ≡ some x → x ≡ (turns l k (by_last l.order l.place (l.place t))).content
    read_right x e =
        let y = has in
        let answered = v.values.reads t k y (v.copies.copied_claimed t k (committed_closed (s.phase t) cm) y) (committed_sure (s.phase t) (s.failed t) (s.place t) (s.taken (s.header.owner k)) cm) in
        some_inj (sym e ∙ answered)
        ∙ ap (λ x. x.content) (same_serial k (s.place t) ∙ ap (λ f. turns l k (by_last l.order l.place (f t))) (sym v.linked.place_same))
      where
        some_inj : {a b : ℕ} → some a ≡ some b → a ≡ b
        some_inj q = cc

        has : has_copy (s.mark t k) ≡ true
        has = bool (has_copy (s.mark t k)) (λ y. y) (λ y. absurd (none_some (sym (v.linked.unread t k y) ∙ e)))
          where
            none_some : none ≡ some x → ⊥
            none_some q = let z : ◌≡◌ {A = ℕ} 0 1 = cc in omega arith

  pub store_right : ((t k : ℕ) → l.committed t ≡ true → claims (s.claim t k) ≡ true → l.applied (s.header.owner k) t ≡ true) → (k : ℕ) → s.sheet k ≡ turns l k (by_last l.order l.place (length l.order))
  store_right done k =
      sheet_shown s l.applied r (length s.order) k v.copies v.values (le_refl (length s.order))
      (λ u o c x. done u k (v.linked.commit_same u ∙ c) (x_claims (s.claim u k) x))
      (λ u o c x. absurd (not_both o (v.places.stands u (committed_placed (s.phase u) c)).0))
      ∙ same_serial k (length s.order) ∙ ap (λ o. turns l k (by_last l.order l.place (length o))) (sym v.linked.order_same)
    where
      not_both : {a b : ℕ} → a ≤ b → b < a → ⊥
      not_both o m = omega arith

  rank_two : (c : Claim) → rank c ≤ 2
  rank_two unclaimed = omega arith
  rank_two shared = omega arith
  rank_two exclusive = omega arith

  pub runs_few : (t : ℕ) → l.runs t ≤ 2 + 2 * s.header.sheets
  runs_few t = rw v.linked.runs_same (omega (
    arith,
    runs_most (s.phase t) (s.runs t) (level s.header.sheets (s.claim t)) (v.linked.runs_right t),
    sum_bound s.header.sheets 2 (λ k. rank (s.claim t k)) (λ k _. rank_two (s.claim t k)),
  ))

-- ---- Three clauses of demand 3

pub serial_reads : (h : Header) (cs : List Command) → Reads h cs
serial_reads h cs t k x c e = read_right (after h cs) (told h cs) (first_answers h cs) (always h cs) t k c x e

pub serial_store : (h : Header) (cs : List Command) → Store h cs
serial_store h cs done k = store_right (after h cs) (told h cs) (first_answers h cs) (always h cs) (rw (header_after h cs) done) k

pub few_runs : (h : Header) (cs : List Command) → Runs h cs
few_runs h cs t = le_trans (runs_few (after h cs) (told h cs) (first_answers h cs) (always h cs) t) (le_of_eq (ap (λ x. 2 + 2 * x.sheets) (header_after h cs)))
