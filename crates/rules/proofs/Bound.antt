-- At most (2×N+2)×(P+W) commands of the four kinds are accepted, P places and W saves in a wide run: what is still to come falls
-- with each, and is at most that.
use Prim.Native.Nat.{ℕ, zero, suc, ◌+◌, ◌-◌, ◌*◌, ◌≤◌, ◌<◌}
use mathlib.Core.Path.{◌≡◌, refl, sym}
use mathlib.Core.Bool.{Bool, true, false, ◌&&◌, true≢false}
use mathlib.Core.Logic.{◌≢◌}
use mathlib.Core.List.{List, [], ◌∷◌, ◌++◌}
use mathlib.Core.Option.{Option}
use native.Mathlib.Omega.{arith}
use native.Mathlib.Nat.{le_refl, le_trans, mul-le-mul_left}
use lib.ListN.{length}
use lib.Dec.{eqb, ltb}
use borrow.Author.Tests.{eqb-true, ltb-true, lt-ltb, le-ltb, eq-eqb}
use Rattle.rules.specs.Table.{upd, upd2, row, any}
use Rattle.rules.specs.Sizes.{max_saves}
use Rattle.rules.specs.Bytes.{Command, Begin, Read, Write, Submit, Take, Decide, Apply, GiveUp}
use Rattle.rules.specs.State.{Phase, unused, first, submitted, second, committed, dropped, absent, Tally, State, is_second, wider, wide_by, wide, at}
use Rattle.rules.specs.Steps.{mem, owns, tests, check, Checked, pass, refuse, effect, answer, with_saves, next_is_last, join_order, decide_save}
use Rattle.rules.specs.Serial.{History, says_again, hear, reads_after}
use Rattle.rules.specs.Demand3.{wide_runs, of_four_kinds, FourKinds, accepted_of}
use Rattle.rules.proofs.Table.{bool, same?, upd_same, upd_other, upd2_at, upd2_same, row_same, row_other, and_i, and_l, and_r, any_at, any_fails, sum, sum_le, sum_falls, sum_bound, sum_two, one, one_one, count_sum}
use Rattle.rules.proofs.Tests.{passed_asked}
use Rattle.rules.proofs.Invariant.{level, RunsOf, Stands, Inv}
use Rattle.rules.proofs.Places.{snoc_old, snoc_new, snoc_long}
use Rattle.rules.proofs.Phases.{submitted_is, second_is}
use Rattle.rules.proofs.Accepted.{entry_of, keeps}

-- ---- Saves that stand are no more than the places

abbrev stands? : List ℕ → (ℕ → ℕ) → ℕ → Bool
stands? order place t = ltb (place t) (length order) && eqb (at order (place t)) t

stands_true : (order : List ℕ) (place : ℕ → ℕ) (t : ℕ) → Stands order place t → stands? order place t ≡ true
stands_true order place t h = and_i (ltb (place t) (length order)) (eqb (at order (place t)) t) (lt-ltb (place t) (length order) h.0) (eq-eqb (at order (place t)) t h.1)

stands_is : (order : List ℕ) (place : ℕ → ℕ) (t : ℕ) → stands? order place t ≡ true → Stands order place t
stands_is order place t h = (
  ltb-true (place t) (length order) (and_l (ltb (place t) (length order)) (eqb (at order (place t)) t) h),
  eqb-true (at order (place t)) t (and_r (ltb (place t) (length order)) (eqb (at order (place t)) t) h),
)

one_below : (x m : ℕ) → one (ltb x m) ≤ one (ltb x (suc m))
one_below x m = bool (ltb x m) (λ e. rw (e, lt-ltb x (suc m) (omega (arith, ltb-true x m e))) (le_refl 1)) (λ e. rw e (omega arith))

standing_below : (order : List ℕ) (place : ℕ → ℕ) (m : ℕ) → sum m (λ t. one (stands? order place t)) ≤ sum (length order) (λ p. one (ltb (at order p) m))
unfolding sum
standing_below order place zero = omega arith
standing_below order place (suc m) =
    bool (stands? order place m)
    (λ e. let st = stands_is order place m e in
    rw e (omega (
      arith,
      standing_below order place m,
      sum_falls (length order) (λ p. one (ltb (at order p) m)) (λ p. one (ltb (at order p) (suc m))) 1 (place m) st.0
          (rw (st.1, le-ltb m m (le_refl m), lt-ltb m (suc m) (le_refl (suc m))) (le_refl 1)) (λ j _ _. one_below (at order j) m),
    )))
    (λ e. rw e (omega (arith, standing_below order place m, sum_le (length order) (λ p. one (ltb (at order p) m)) (λ p. one (ltb (at order p) (suc m))) (λ j _. one_below (at order j) m))))

pub standing_few : (order : List ℕ) (place : ℕ → ℕ) (m : ℕ) → sum m (λ t. one (stands? order place t)) ≤ length order
standing_few order place m = omega (arith, standing_below order place m, sum_bound (length order) 1 (λ p. one (ltb (at order p) m)) (λ p _. one_one (ltb (at order p) m)))

-- ---- What is still to come: TAKEs, then for each save that stands its DECIDE and SUBMIT, and an APPLY at each node

-- with n nodes, w for a wide run
abbrev left : Phase → (w : Bool) (n : ℕ) → ℕ
left unused w n = 0
left first w n = 0
left submitted w n = 2
left second false n = 1
left second true n = n + 3
left committed w n = 0
left dropped w n = 0

left_most : (ph : Phase) (w : Bool) (n : ℕ) → left ph w n ≤ 2 + (2 * n + 2) * one (is_second ph && w)
left_most unused w n = omega arith
left_most first w n = omega arith
left_most submitted w n = omega arith
left_most second false n = omega arith
left_most second true n = omega arith
left_most committed w n = omega arith
left_most dropped w n = omega arith

abbrev undone : Bool → ℕ
undone true = 0
undone false = 1

undone_one : (b : Bool) → undone b ≤ 1
undone_one true = omega arith
undone_one false = omega arith

abbrev ahead_of : Bool → ℕ → ℕ
ahead_of true n = n
ahead_of false n = 0

ahead : State → (ℕ → ℕ → Bool) → ℕ → ℕ
ahead s applied t = ahead_of (stands? s.order s.place t) (left (s.phase t) (wide s t) s.header.nodes + sum s.header.nodes (λ n. undone (applied n t)))

abbrev takes : State → ℕ
takes s = sum s.header.nodes (λ n. length s.order - s.taken n)

to_come : State → History → ℕ
to_come s l = takes s + sum max_saves (ahead s l.applied)

ahead_most : (s : State) (applied : ℕ → ℕ → Bool) (t : ℕ)
    → ahead s applied t ≤ (s.header.nodes + 2) * one (stands? s.order s.place t) + (2 * s.header.nodes + 2) * one (is_second (s.phase t) && wide s t)
unfolding ahead
ahead_most s applied t =
    let n = s.header.nodes in
    bool (stands? s.order s.place t)
    (λ e. rw e (omega (arith, left_most (s.phase t) (wide s t) n, sum_bound n 1 (λ m. undone (applied m t)) (λ m _. undone_one (applied m t)))))
    (λ e. rw e (omega arith))

to_come_bound : (s : State) (l : History) → to_come s l ≤ (2 * s.header.nodes + 2) * (length s.order + wide_runs s)
unfolding to_come
to_come_bound s l =
    let n = s.header.nodes in
    let p = length s.order in
    rw (count_sum max_saves (λ t. is_second (s.phase t) && wide s t)) (omega (
      arith,
      sum_bound n p (λ n. p - s.taken n) (λ n o. omega arith),
      sum_two max_saves (n + 2) (2 * n + 2) (ahead s l.applied) (λ t. one (stands? s.order s.place t)) (λ t. one (is_second (s.phase t) && wide s t)) (λ t _. ahead_most s l.applied t),
      mul-le-mul_left (n + 2) (standing_few s.order s.place max_saves),
    ))

-- ---- Each accepted command of the four kinds lessens it

takes_fall : (s : State) (n : ℕ) → n < s.header.nodes → s.taken n < length s.order
    → sum s.header.nodes (λ i. length s.order - upd s.taken n (suc (s.taken n)) i) + 1 ≤ takes s
takes_fall s n hn h =
    sum_falls s.header.nodes (λ i. length s.order - upd s.taken n (suc (s.taken n)) i) (λ i. length s.order - s.taken i) 1 n hn
    (rw (upd_same s.taken n (suc (s.taken n))) (omega arith))
    (λ i _ d. rw (upd_other s.taken n (suc (s.taken n)) i d) (le_refl (length s.order - s.taken i)))

-- t gets a new phase, with less left
phase_falls : (s : State) (l : History) (t : ℕ) (new : Phase) (runs : ℕ → ℕ) (tally : Tally) → t < max_saves → Stands s.order s.place t → left new (wide s t) s.header.nodes + 1 ≤ left (s.phase t) (wide s t) s.header.nodes
    → sum max_saves (ahead (with_saves s (upd s.phase t new) s.mark runs tally) l.applied) + 1 ≤ sum max_saves (ahead s l.applied)
unfolding ahead
phase_falls s l t new runs tally ht st h =
    sum_falls max_saves (ahead (with_saves s (upd s.phase t new) s.mark runs tally) l.applied) (ahead s l.applied) 1 t ht
    (rw (stands_true s.order s.place t st, upd_same s.phase t new) (omega arith))
    (λ u _ d. rw (upd_other s.phase t new u d) (le_refl (ahead s l.applied u)))

-- t enters a later run
enter_falls : (s : State) (l : History) (t : ℕ) → t < max_saves → s.phase t ≡ submitted → Stands s.order s.place t
    → sum max_saves (ahead (decide_save true s t) l.applied) + 1 ≤ sum max_saves (ahead s l.applied)
unfolding ahead wide_by
enter_falls s l t ht sub st =
    sum_falls max_saves (ahead (decide_save true s t) l.applied) (ahead s l.applied) 1 t ht
    (rw (stands_true s.order s.place t st, upd_same s.phase t second, sub, narrow) (omega arith))
    (λ u _ d. simp (upd_other, row_other) (le_refl (ahead s l.applied u)))
  where
    narrow : any s.header.sheets (λ k. wider (s.claim t k) (row s.mark t (λ k. absent) t k)) ≡ false
    narrow = any_fails s.header.sheets _ (λ k _. rw (row_same s.mark t (λ k. absent) k))

-- t takes a new place: its own part falls by N + 1, and each node has one more to take
join_falls : (s : State) (l : History) (t : ℕ) → t < max_saves → s.phase t ≡ second → wide s t ≡ true → Stands s.order s.place t
    → sum max_saves (ahead (join_order s t) l.applied) + (s.header.nodes + 1) ≤ sum max_saves (ahead s l.applied)
unfolding ahead wide_by
join_falls s l t ht q w st =
    sum_falls max_saves (ahead (join_order s t) l.applied) (ahead s l.applied) (s.header.nodes + 1) t ht
    (rw (stands_true (s.order ++ t ∷ []) (upd s.place t (length s.order)) t new_stands, stands_true s.order s.place t st, upd_same s.phase t submitted, q, w) (omega arith))
    (λ u _ d. simp (upd_other, row_other) (no_more u d (left (s.phase u) (wide s u) s.header.nodes + sum s.header.nodes (λ n. undone (l.applied n u)))))
  where
    new_stands : Stands (s.order ++ t ∷ []) (upd s.place t (length s.order)) t
    new_stands = (
      rw (upd_same s.place t (length s.order), snoc_long s.order s.place t) (le_refl (suc (length s.order))),
      rw (upd_same s.place t (length s.order)) (snoc_new s.order s.place t),
    )

    was : (u : ℕ) → u ≢ t → stands? (s.order ++ t ∷ []) s.place u ≡ true → stands? s.order s.place u ≡ true
    was u d y =
        let z = stands_is (s.order ++ t ∷ []) s.place u y in
        let z0 = rw (snoc_long s.order s.place t) at z.0 in
        same? (s.place u) (length s.order) (λ e. absurd (d (sym (rw (e, snoc_new s.order s.place t) at z.1))))
        (λ e. let o : s.place u < length s.order = omega arith in stands_true s.order s.place u (o, (rw (snoc_old s.order s.place t (s.place u) o) at z.1)))

    no_more : (u : ℕ) → u ≢ t → (x : ℕ) → ahead_of (stands? (s.order ++ t ∷ []) s.place u) x ≤ ahead_of (stands? s.order s.place u) x
    no_more u d x = bool (stands? (s.order ++ t ∷ []) s.place u) (λ e. rw (e, was u d e) (le_refl x)) (λ e. rw e (omega arith))

longer_takes : (s : State) (t : ℕ) → takes (join_order s t) ≤ takes s + s.header.nodes
longer_takes s t = omega (
  arith,
  sum_two s.header.nodes 1 1 (λ i. length (s.order ++ t ∷ []) - s.taken i) (λ i. length s.order - s.taken i) (λ i. 1) (λ i _. rw (snoc_long s.order s.place t) (omega arith)),
  sum_bound s.header.nodes 1 (λ i. 1) (λ i _. le_refl 1),
)

apply_falls : (s : State) (l : History) (n t : ℕ) → t < max_saves → n < s.header.nodes → Stands s.order s.place t → l.applied n t ≡ false
    → sum max_saves (ahead s (upd2 l.applied n t true)) + 1 ≤ sum max_saves (ahead s l.applied)
unfolding ahead
apply_falls s l n t ht hn st f =
    sum_falls max_saves (ahead s (upd2 l.applied n t true)) (ahead s l.applied) 1 t ht
    (rw (stands_true s.order s.place t st) (omega (
      arith,
      sum_falls s.header.nodes (λ m. undone (upd2 l.applied n t true m t)) (λ m. undone (l.applied m t)) 1 n hn
          (rw (upd2_same l.applied n t true, f) (le_refl 1)) (λ m _ _. less m t),
    )))
    (λ u _ d. bool (stands? s.order s.place u)
    (λ e. rw e (omega (arith, sum_le s.header.nodes (λ m. undone (upd2 l.applied n t true m u)) (λ m. undone (l.applied m u)) (λ m _. less m u)))) (λ e. rw e (omega arith)))
  where
    less : (m u : ℕ) → undone (upd2 l.applied n t true m u) ≤ undone (l.applied m u)
    less m u = upd2_at (λ b. undone b ≤ undone (l.applied m u)) l.applied n t true m u (λ _ _. omega arith) (λ _. le_refl (undone (l.applied m u)))

falls : (s : State) (l : History) (r : ℕ → ℕ → Option ℕ) (c : Command) → Inv s l r → of_four_kinds s c ≡ true → check s c ≡ pass → to_come (effect s c) (hear l c (says_again (answer s c))) < to_come s l
unfolding to_come ahead
falls s l r (Begin t) v k e = absurd (true≢false (sym k))
falls s l r (Read t x) v k e = absurd (true≢false (sym k))
falls s l r (Write t x y) v k e = absurd (true≢false (sym k))
falls s l r (GiveUp t) v k e = absurd (true≢false (sym k))
falls s l r (Submit t) v k e =
    let g = passed_asked (tests s (Submit t)) e in
    let ht = ltb-true t max_saves (g 4).0 in
    let q = second_is (s.phase t) k in
    let st = v.places.stands t (rw q) in
    let b : RunsOf second (s.runs t) (level s.header.sheets (s.claim t)) = rw q at (v.linked.runs_right t) in
    let a : ltb 1 (l.runs t) ≡ true = lt-ltb 1 (l.runs t) (rw v.linked.runs_same b.0) in
    rw (v.linked.wide_same t k, q, a) (bool (wide s t)
    (λ w. rw w (omega (arith, join_falls s l t ht q w st, longer_takes s t)))
    (λ w. rw w (omega (arith, phase_falls s l t committed s.runs s.tally ht st (rw (q, w) (omega arith))))))
falls s l r (Take n) v k e =
    let g = passed_asked (tests s (Take n)) e in
    let f = takes_fall s n (ltb-true n s.header.nodes (g 4).0) (ltb-true (s.taken n) (length s.order) (g 9).0) in
    bool (next_is_last s n) (λ y. rw y (omega arith)) (λ y. rw y (omega arith))
falls s l r (Decide t) v k e =
    let g = passed_asked (tests s (Decide t)) e in
    let q = submitted_is (s.phase t) (g 5).0 in
    let ht = ltb-true t max_saves (g 4).0 in
    let st = v.places.stands t (rw q) in
    bool (s.failed t)
    (λ f. rw f (omega (arith, enter_falls s l t ht q st)))
    (λ f. rw f (omega (arith, phase_falls s l t committed s.runs s.tally ht st (rw q (omega arith)))))
falls s l r (Apply n t) v k e =
    let g = passed_asked (tests s (Apply n t)) e in
    any_at s.header.sheets (λ k. owns s n k && mem t (s.queue k)) (g 11).0
    (λ k h y. let z = eqb-true (s.header.owner k) n (and_l (owns s n k) (mem t (s.queue k)) y) in
    entry_of s l r t k v (and_r (owns s n k) (mem t (s.queue k)) y)
    (λ st o _ f. omega (arith, apply_falls s l n t (ltb-true t max_saves (g 4).1.0) (ltb-true n s.header.nodes (g 4).0) st (rw z at f))))

-- ---- The count

few : (cs : List Command) (s : State) (l : History) (r : ℕ → ℕ → Option ℕ) → Inv s l r → FourKinds s cs → accepted_of s cs ≤ to_come s l
unfolding FourKinds accepted_of
few [] s l r v k = omega arith
few (c ∷ cs) s l r v k = go (check s c) refl (λ s' l' r'. few cs s' l' r')
  where
    go : (x : Checked) → check s c ≡ x → ((s' : State) (l' : History) (r' : ℕ → ℕ → Option ℕ) → Inv s' l' r' → FourKinds s' cs → accepted_of s' cs ≤ to_come s' l')
        → accepted_of s (c ∷ cs) ≤ to_come s l
    go pass e f = rw e (omega (
      arith,
      f (effect s c) (hear l c (says_again (answer s c))) (reads_after r c (answer s c)) (keeps s l r c v e) (rw e at k.1),
      falls s l r c v k.0 e,
    ))
    go (refuse n) e f = rw e (omega (arith, f s l r v (rw e at k.1)))

pub at_most : (cs : List Command) (s : State) (l : History) (r : ℕ → ℕ → Option ℕ) → Inv s l r → FourKinds s cs → accepted_of s cs ≤ (2 * s.header.nodes + 2) * (length s.order + wide_runs s)
at_most cs s l r v k = le_trans (few cs s l r v k) (to_come_bound s l)
