-- While a queue holds an entry, some command of the four kinds is accepted: the waiting save of least place can move.
use Prim.Native.Nat.{ℕ, zero, suc, ◌≤◌, ◌<◌}
use mathlib.Core.Path.{◌≡◌, refl, sym, ◌∙◌}
use mathlib.Core.Bool.{Bool, true, false, not, ◌&&◌, ◌||◌, true≢false}
use mathlib.Core.List.{[]}
use mathlib.Core.Option.{Option}
use native.Mathlib.Omega.{arith}
use native.Mathlib.Nat.{not-suc-le-zero}
use lib.ListN.{length}
use lib.Dec.{ltb}
use borrow.Author.Tests.{eq-eqb, lt-ltb, ltb-true, ltb-false}
use Rattle.rules.specs.Table.{any}
use Rattle.rules.specs.Sizes.{max_saves}
use Rattle.rules.specs.Bytes.{Command, Submit, Take, Decide, Apply}
use Rattle.rules.specs.State.{Phase, unused, first, submitted, second, committed, dropped, Claim, unclaimed, shared, exclusive, State, is_unused, over, claims, at}
use Rattle.rules.specs.Steps.{mem, before, x_on, granted_as, granted, owns, has_taken, tests, check, pass}
use Rattle.rules.specs.Serial.{History}
use Rattle.rules.specs.Demand3.{of_four_kinds}
use Rattle.rules.proofs.Table.{bool, clash, any_at, any_intro, any_none, all_at, all_or}
use Rattle.rules.proofs.Tests.{passes}
use Rattle.rules.proofs.Places.{or_r, entries_in, entries_before, entries_nil, by, by_in, by_out, by_test}
use Rattle.rules.proofs.Invariant.{joined, live, Stands, Inv}
use Rattle.rules.proofs.Phases.{not_applied}
use Rattle.rules.proofs.Accepted.{entry_of}

-- the least number below n that passes a test
pub least : {P : Type 0} (n : ℕ) (f : ℕ → Bool) (i : ℕ) → i < n → f i ≡ true → ((p : ℕ) → p < n → f p ≡ true → ((q : ℕ) → q < p → f q ≡ false) → P) → P
least zero f i h e k = absurd (not-suc-le-zero h)
least (suc n) f i h e k =
    bool (any n f) (λ y. any_at n f y (λ j o z. least n f j o z (λ p r. k p (omega arith)))) (λ y. k i h e (λ q o. any_none n f y q (omega arith)))

abbrev pub Moves : State → Type 0
Moves s = (c : Command) × (of_four_kinds s c ≡ true) × (check s c ≡ pass)

module _ (s : State) (l : History) (r : ℕ → ℕ → Option ℕ) (v : Inv s l r) (owners : (k : ℕ) → k < s.header.sheets → s.header.owner k < s.header.nodes) where
  abbrev a : ℕ → ℕ
  a = at s.order

  abbrev own : ℕ → ℕ
  own = s.header.owner

  abbrev F : ℕ → ℕ → Bool
  F k = live own s.claim l.applied k

  abbrev waits : ℕ → Bool
  waits t = any s.header.sheets (λ k. mem t (s.queue k))

  module _ (t : ℕ) (st : Stands s.order s.place t) (w : waits t ≡ true) (first_one : (q : ℕ) → q < s.place t → by s.order s.place waits q ≡ false)
      (j : joined (s.phase t) ≡ true) where
    small : ltb t max_saves ≡ true
    small = lt-ltb t max_saves (v.places.small t j)

    -- nothing live stands before it on any sheet
    none_before : (k : ℕ) → k < s.header.sheets → s.place t < s.taken (own k) → (u : ℕ) → a (s.place u) ≡ u → s.place u < s.place t → F k u ≡ false
    none_before k o h u e z = bool (F k u)
        (λ y. clash (by s.order s.place waits (s.place u)) (by_in s.order s.place waits u e (any_intro s.header.sheets (λ k. mem u (s.queue k)) k o
        (rw (v.queues k) (entries_in s.order s.place (F k) (s.taken (own k)) u (omega arith) e y)))) (first_one (s.place u) z))
        (λ y. y)

    -- on a sheet where it is taken, it stands first
    at_front : (k : ℕ) → k < s.header.sheets → over (s.phase t) ≡ false → claims (s.claim t k) ≡ true → s.place t < s.taken (own k) → before t (s.queue k) ≡ []
    unfolding live
    at_front k o open_yet c h =
        let alive : F k t ≡ true = rw (c, not_applied t (own k) open_yet v.locks) in
        rw (v.queues k) (entries_before s.order s.place (F k) (s.taken (own k)) t h st.1 alive ∙ entries_nil s.order s.place (F k) (s.place t) (none_before k o h))

    granted_now : (k : ℕ) → k < s.header.sheets → over (s.phase t) ≡ false → (claims (s.claim t k) ≡ true → s.place t < s.taken (own k)) → granted s t k ≡ true
    granted_now k o open_yet h = go (s.claim t k) refl
      where
        go : (c : Claim) → s.claim t k ≡ c → granted_as c (x_on s.claim k) (before t (s.queue k)) ≡ true
        go unclaimed q = refl
        go shared q = rw (at_front k o open_yet (rw q) (h (rw q)))
        go exclusive q = rw (at_front k o open_yet (rw q) (h (rw q)))

    carry_out : not (is_unused (s.phase t)) ≡ true → over (s.phase t) ≡ true → Moves s
    carry_out b e = any_at s.header.sheets (λ k. mem t (s.queue k)) w (λ k o m. (
      Apply (own k) t,
      refl,
      passes (tests s (Apply (own k) t)) (
        lt-ltb (own k) s.header.nodes (owners k o),
        (
          small,
          (
            b,
            (
              e,
              (
                any_intro s.header.sheets (λ j. owns s (own k) j && mem t (s.queue j)) k o
                    (rw (eq-eqb (own k) (own k) refl) m),
                tt,
              ),
            ),
          ),
        ),
      ),
    ))

    abbrev taken_by : ℕ → Bool
    taken_by k = not (claims (s.claim t k)) || has_taken s (own k) t

    taken_there : (k : ℕ) → taken_by k ≡ true → claims (s.claim t k) ≡ true → s.place t < s.taken (own k)
    taken_there k y c = ltb-true (s.place t) (s.taken (own k)) (rw c at y)

    not_taken : (k : ℕ) → taken_by k ≡ false → s.taken (own k) ≤ s.place t
    not_taken k y = ltb-false (s.place t) (s.taken (own k)) (or_r (not (claims (s.claim t k))) (has_taken s (own k) t) y)

    -- an owner of a claimed sheet that has not taken it can; else every entry is granted
    decide_it : s.phase t ≡ submitted → Moves s
    decide_it e =
        all_or s.header.sheets taken_by
        (λ a. all_or s.header.sheets (λ k. granted s t k)
        (λ g. (Decide t, refl, passes (tests s (Decide t)) (small, (rw e, (rw e, (rw e, (a, (g, tt))))))))
        (λ k o f. clash (granted s t k) (granted_now k o (rw e) (taken_there k (all_at s.header.sheets taken_by a k o))) f))
        (λ k o f. (
          Take (own k),
          refl,
          passes (tests s (Take (own k))) (lt-ltb (own k) s.header.nodes (owners k o), (lt-ltb (s.taken (own k)) (length s.order) (omega (arith, st.0, not_taken k f)), tt)),
        ))

    moves_by : (ph : Phase) → s.phase t ≡ ph → joined ph ≡ true → Moves s
    moves_by unused e j = absurd (true≢false (sym j))
    moves_by first e j = absurd (true≢false (sym j))
    moves_by submitted e j = decide_it e
    moves_by second e j = (Submit t, rw e, passes (tests s (Submit t)) (small, (rw e, (rw e, (rw e, tt)))))
    moves_by committed e j = carry_out (rw e) (rw e)
    moves_by dropped e j = carry_out (rw e) (rw e)

  pub progress : (k t : ℕ) → mem t (s.queue k) ≡ true → Moves s
  progress k t m =
      entry_of s l r t k v m (λ st _ cl _.
      let o = v.copies.claim_range t k cl in
      least (length s.order) (by s.order s.place waits) (s.place t) st.0
      (by_in s.order s.place waits t st.1 (any_intro s.header.sheets (λ j. mem t (s.queue j)) k o m))
      (λ q z y f.
      let p : s.place (a q) ≡ q = by_out s.order s.place waits q y in
      let w : waits (a q) ≡ true = by_test s.order s.place waits q y in
      any_at s.header.sheets (λ j. mem (a q) (s.queue j)) w (λ i h x. entry_of s l r (a q) i v x (λ st' _ c _.
      let j = v.places.claim_joined (a q) i c in
      moves_by (a q) st' w (rw p f) j (s.phase (a q)) refl j))))
