-- What one test of a phase, a mark or a claim says of another, and the changes of one save's phase that keep the parts of the invariant.
use Prim.Native.Nat.{ℕ, ◌+◌, ◌≤◌, ◌<◌}
use mathlib.Core.Path.{◌≡◌, refl, sym, ap, ◌∙◌}
use mathlib.Core.Bool.{Bool, true, false, not, ◌&&◌, ◌||◌, true≢false, and-false, and-true}
use mathlib.Core.List.{List}
use mathlib.Core.Option.{Option}
use native.Mathlib.Omega.{arith}
use lib.ListN.{length}
use Rattle.rules.specs.Table.{upd}
use Rattle.rules.specs.Sizes.{max_saves}
use Rattle.rules.specs.State.{Phase, unused, first, submitted, second, committed, dropped, Mark, absent, copied, written, Claim, unclaimed, shared, exclusive, Tally, State, is_unused, is_second, is_submitted, is_committed, running, over, has_copy, is_written, claims, is_x, at}
use Rattle.rules.specs.Steps.{with_saves}
use Rattle.rules.proofs.Table.{bool, same?, clash, upd_same, upd_other, upd_at, and_l, and_r}
use Rattle.rules.proofs.Places.{fold_cong, fold_skip}
use Rattle.rules.proofs.Invariant.{joined, needs_place, locked, closed, RunsOf, Sure, Stands, Places, Copies, Locks, live, storing, stores, serial_at, Values}

-- ---- One test of a phase from another, by looking at all six

abbrev same : Bool → Bool → Bool
same true b = b
same false b = not b

abbrev every : (Phase → Bool) → Bool
every f = f unused && (f first && (f submitted && (f second && (f committed && f dropped))))

implies : (a b x y : Bool) → (not (same a x) || same b y) ≡ true → x ≡ a → y ≡ b
implies true true true true h e = refl
implies true true true false h e = absurd (true≢false (sym h))
implies true false true true h e = absurd (true≢false (sym h))
implies true false true false h e = refl
implies true b false y h e = absurd (true≢false (sym e))
implies false true false true h e = refl
implies false true false false h e = absurd (true≢false (sym h))
implies false false false true h e = absurd (true≢false (sym h))
implies false false false false h e = refl
implies false b true y h e = absurd (true≢false e)

at_phase : (f : Phase → Bool) → every f ≡ true → (p : Phase) → f p ≡ true
at_phase f h unused = and_l (f unused) _ h
at_phase f h first = and_l (f first) _ (and_r (f unused) _ h)
at_phase f h submitted = and_l (f submitted) _ (and_r (f first) _ (and_r (f unused) _ h))
at_phase f h second = and_l (f second) _ (and_r (f submitted) _ (and_r (f first) _ (and_r (f unused) _ h)))
at_phase f h committed = and_l (f committed) (f dropped) (and_r (f second) _ (and_r (f submitted) _ (and_r (f first) _ (and_r (f unused) _ h))))
at_phase f h dropped = and_r (f committed) (f dropped) (and_r (f second) _ (and_r (f submitted) _ (and_r (f first) _ (and_r (f unused) _ h))))

pub follows : (f g : Phase → Bool) (a b : Bool) → every (λ p. not (same a (f p)) || same b (g p)) ≡ true → (p : Phase) → f p ≡ a → g p ≡ b
follows f g a b h p e = implies a b (f p) (g p) (at_phase (λ p. not (same a (f p)) || same b (g p)) h p) e

pub not_over : (p : Phase) → over p ≡ false → is_committed p ≡ false
not_over = follows over is_committed false false refl

pub running_not_over : (p : Phase) → running p ≡ true → over p ≡ false
running_not_over = follows running over true false refl

pub running_used : (p : Phase) → running p ≡ true → is_unused p ≡ false
running_used = follows running is_unused true false refl

pub committed_locked : (p : Phase) → is_committed p ≡ true → locked p ≡ true
committed_locked = follows is_committed locked true true refl

pub committed_closed : (p : Phase) → is_committed p ≡ true → closed p ≡ true
committed_closed = follows is_committed closed true true refl

pub committed_placed : (p : Phase) → is_committed p ≡ true → needs_place p ≡ true
committed_placed = follows is_committed needs_place true true refl

pub unused_is : (p : Phase) → is_unused p ≡ true → p ≡ unused
unused_is unused e = refl
unused_is first e = cc
unused_is submitted e = cc
unused_is second e = cc
unused_is committed e = cc
unused_is dropped e = cc

pub submitted_is : (p : Phase) → is_submitted p ≡ true → p ≡ submitted
submitted_is unused e = cc
submitted_is first e = cc
submitted_is submitted e = refl
submitted_is second e = cc
submitted_is committed e = cc
submitted_is dropped e = cc

pub second_is : (p : Phase) → is_second p ≡ true → p ≡ second
second_is unused e = cc
second_is first e = cc
second_is submitted e = cc
second_is second e = refl
second_is committed e = cc
second_is dropped e = cc

pub not_closed : (p : Phase) → running p ≡ true → closed p ≡ false
not_closed = follows running closed true false refl

pub runs_most : (p : Phase) (r z : ℕ) → RunsOf p r z → r ≤ 2 + z
runs_most unused r z e = omega arith
runs_most first r z e = omega arith
runs_most submitted r z e = omega (arith, e.1)
runs_most second r z e = e.1
runs_most committed r z e = e
runs_most dropped r z e = e

-- ---- Marks and claims

pub x_claims : (c : Claim) → is_x c ≡ true → claims c ≡ true
x_claims unclaimed e = e
x_claims shared e = refl
x_claims exclusive e = refl

pub written_copied : (m : Mark) → is_written m ≡ true → has_copy m ≡ true
written_copied absent e = e
written_copied copied e = refl
written_copied written e = refl

pub live_not : (owner : ℕ → ℕ) (claim : ℕ → ℕ → Claim) (applied : ℕ → ℕ → Bool) (k u : ℕ) → claims (claim u k) ≡ true → (live owner claim applied k u ≡ true → ⊥) → applied (owner k) u ≡ true
unfolding live
live_not owner claim applied k u c n = bool (applied (owner k) u) (λ e. e) (λ e. absurd (n (simp (c, e))))

-- ---- A change of one save's phase

pub places_phase : {order : List ℕ} {phase : ℕ → Phase} {place : ℕ → ℕ} {claim : ℕ → ℕ → Claim} {taken : ℕ → ℕ} (t : ℕ) (new : Phase) → t < max_saves
    → (joined (phase t) ≡ true → joined new ≡ true) → (needs_place new ≡ true → Stands order place t)
    → Places order phase place claim taken → Places order (upd phase t new) place claim taken
places_phase {order} {phase} {place} {claim} {taken} t new ht j m v = record {
  stands = λ u. upd_at (λ x. needs_place x ≡ true → Stands order place u) phase t new u (λ e y. rw e (m y)) (λ _. v.stands u);
  claim_stands = v.claim_stands;
  claim_joined = λ u k c. upd_at (λ x. joined x ≡ true) phase t new u (λ e. j (rw e at (v.claim_joined u k c))) (λ _. v.claim_joined u k c);
  placed = λ q h. upd_at (λ x. joined x ≡ true) phase t new (at order q) (λ e. j (rw e at (v.placed q h))) (λ _. v.placed q h);
  bound = v.bound;
  small = λ u. upd_at (λ x. joined x ≡ true → u < max_saves) phase t new u (λ e _. rw e ht) (λ _. v.small u);
}

-- the claim of t covers its copies
pub record Covers (mark : ℕ → ℕ → Mark) (claim : ℕ → ℕ → Claim) (t : ℕ) : Type 0 where
  pub reads : (k : ℕ) → has_copy (mark t k) ≡ true → claims (claim t k) ≡ true
  pub writes : (k : ℕ) → is_written (mark t k) ≡ true → is_x (claim t k) ≡ true

pub covered : {sheets : ℕ} {phase : ℕ → Phase} {mark : ℕ → ℕ → Mark} {claim : ℕ → ℕ → Claim} (t : ℕ) → closed (phase t) ≡ true → Copies sheets phase mark claim → Covers mark claim t
covered t c v = record { reads = λ k. v.copied_claimed t k c; writes = λ k. v.written_x t k c }

pub copies_phase : {sheets : ℕ} {phase : ℕ → Phase} {mark : ℕ → ℕ → Mark} {claim : ℕ → ℕ → Claim} (t : ℕ) (new : Phase)
    → is_unused new ≡ false → (closed new ≡ true → Covers mark claim t) → Copies sheets phase mark claim → Copies sheets (upd phase t new) mark claim
copies_phase {phase = phase} {mark = mark} {claim = claim} t new nu c v = record {
  copied_range = v.copied_range;
  claim_range = v.claim_range;
  copied_claimed = λ u k. upd_at (λ x. closed x ≡ true → has_copy (mark u k) ≡ true → claims (claim u k) ≡ true) phase t new u (λ e y. rw e ((c y).reads k)) (λ _. v.copied_claimed u k);
  written_x = λ u k. upd_at (λ x. closed x ≡ true → is_written (mark u k) ≡ true → is_x (claim u k) ≡ true) phase t new u (λ e y. rw e ((c y).writes k)) (λ _. v.written_x u k);
  unused_absent = λ u k. upd_at (λ x. is_unused x ≡ true → mark u k ≡ absent) phase t new u (λ e y. clash (is_unused new) y nu) (λ _. v.unused_absent u k);
}

pub locks_phase : {owner : ℕ → ℕ} {phase : ℕ → Phase} {place : ℕ → ℕ} {claim : ℕ → ℕ → Claim} {failed : ℕ → Bool} {taken : ℕ → ℕ} {applied : ℕ → ℕ → Bool}
    (t : ℕ) (new : Phase) → over (phase t) ≡ false
    → ((u k : ℕ) → Sure new (failed t) (place t) (taken (owner k)) → claims (claim t k) ≡ true → place u < place t → is_x (claim u k) ≡ true → applied (owner k) u ≡ true)
    → ((u k : ℕ) → locked new ≡ true → is_x (claim t k) ≡ true → place u < place t → claims (claim u k) ≡ true → applied (owner k) u ≡ true)
    → Locks owner phase place claim failed taken applied → Locks owner (upd phase t new) place claim failed taken applied
locks_phase {owner} {phase} {place} {claim} {failed} {taken} {applied} t new end st al v = record {
  applied_over = λ n u a. upd_at (λ x. over x ≡ true) phase t new u (λ e. clash (over (phase t)) (rw e at (v.applied_over n u a)) end) (λ _. v.applied_over n u a);
  applied_taken = v.applied_taken;
  settled = λ x u k. upd_at (λ y. Sure y (failed x) (place x) (taken (owner k)) → claims (claim x k) ≡ true → place u < place x → is_x (claim u k) ≡ true → applied (owner k) u ≡ true)
      phase t new x (λ e. rw e (st u k)) (λ _. v.settled x u k);
  alone = λ x u k. upd_at (λ y. locked y ≡ true → is_x (claim x k) ≡ true → place u < place x → claims (claim u k) ≡ true → applied (owner k) u ≡ true)
      phase t new x (λ e. rw e (al u k)) (λ _. v.alone x u k);
}

-- a save that is not over is carried out nowhere
pub not_applied : {owner : ℕ → ℕ} {phase : ℕ → Phase} {place : ℕ → ℕ} {claim : ℕ → ℕ → Claim} {failed : ℕ → Bool} {taken : ℕ → ℕ} {applied : ℕ → ℕ → Bool}
    (t n : ℕ) → over (phase t) ≡ false → Locks owner phase place claim failed taken applied → applied n t ≡ false
not_applied {phase = phase} {applied = applied} t n end v = bool (applied n t) (λ a. clash (over (phase t)) (v.applied_over n t a) end) (λ a. a)

module _ (s : State) (applied : ℕ → ℕ → Bool) (r : ℕ → ℕ → Option ℕ) (t : ℕ) (new : Phase) (runs : ℕ → ℕ) (tally : Tally) where
  -- what the change asks of t: not over before; where it is sure now, it was; covered where it becomes committed
  pub values_phase : over (s.phase t) ≡ false
      → ((k : ℕ) → has_copy (s.mark t k) ≡ true → claims (s.claim t k) ≡ true → Sure new (s.failed t) (s.place t) (s.taken (s.header.owner k))
      → Sure (s.phase t) (s.failed t) (s.place t) (s.taken (s.header.owner k)))
      → (closed new ≡ true → Covers s.mark s.claim t)
      → Locks s.header.owner s.phase s.place s.claim s.failed s.taken applied
      → Values s applied r → Values (with_saves s (upd s.phase t new) s.mark runs tally) applied r
  unfolding storing stores
  values_phase end sure c k v = record {
    sheet_is = λ k. v.sheet_is k ∙ sym (fold_cong s.order s.place (storing s' applied k) (storing s applied k) (λ u. (s.copy u k).content) (λ u. (s.copy u k).content)
        (length s.order) (λ u _. same_storing k u) (λ u _ e. refl));
    behind = v.behind;
    current = v.current;
    reads = λ x k y z w.
        let old = was_sure x k y z w in
        v.reads x k y z old ∙ ap (λ c. Option.some c.content) (sym (fold_cong s.order s.place (stores s' k) (stores s k) (λ u. (s.copy u k).content) (λ u. (s.copy u k).content)
        (s.place x) (λ u l. same_stores x u k l z old) (λ u l e. refl)));
  }
    where
      s' : State
      s' = with_saves s (upd s.phase t new) s.mark runs tally

      same_storing : (k u : ℕ) → storing s' applied k u ≡ storing s applied k u
      same_storing k' u = same? u t (λ e. rw e (simp (not_applied t (s.header.owner k') end k, and-false))) (λ n. simp upd_other)

      was_sure : (x k : ℕ) → has_copy (s.mark x k) ≡ true → claims (s.claim x k) ≡ true
          → Sure (upd s.phase t new x) (s.failed x) (s.place x) (s.taken (s.header.owner k))
          → Sure (s.phase x) (s.failed x) (s.place x) (s.taken (s.header.owner k))
      was_sure x k y z = upd_at (λ ph. Sure ph (s.failed x) (s.place x) (s.taken (s.header.owner k))
          → Sure (s.phase x) (s.failed x) (s.place x) (s.taken (s.header.owner k))) s.phase t new x
          (λ e. rw e (sure k (rw e at y) (rw e at z))) (λ _ w. w)

      same_stores : (x u k : ℕ) → s.place u < s.place x → claims (s.claim x k) ≡ true
          → Sure (s.phase x) (s.failed x) (s.place x) (s.taken (s.header.owner k)) → stores s' k u ≡ stores s k u
      same_stores x u k' l z old = same? u t
          (λ e. rw (e, upd_same s.phase t new, not_over (s.phase t) end) (bool (is_committed new)
          (λ cm. bool (is_written (s.mark t k'))
          (λ w. clash (applied (s.header.owner k') t) (k.settled x t k' old z (rw e at l) ((c (committed_closed new cm)).writes k' w)) (not_applied t (s.header.owner k') end k))
          (λ w. simp (w, and-false)))
          (λ cm. rw cm)))
          (λ n. simp upd_other)

-- where every X before place p is carried out, and no X from p on is, the sheet is as the saves before p leave it
pub sheet_shown : (s : State) (applied : ℕ → ℕ → Bool) (r : ℕ → ℕ → Option ℕ) (p k : ℕ)
    → Copies s.header.sheets s.phase s.mark s.claim → Values s applied r → p ≤ length s.order
    → ((u : ℕ) → s.place u < p → is_committed (s.phase u) ≡ true → is_x (s.claim u k) ≡ true → applied (s.header.owner k) u ≡ true)
    → ((u : ℕ) → p ≤ s.place u → is_committed (s.phase u) ≡ true → is_x (s.claim u k) ≡ true → applied (s.header.owner k) u ≡ false)
    → s.sheet k ≡ serial_at s k p
unfolding storing stores
sheet_shown s applied r p k c v h done not_yet =
    v.sheet_is k
    ∙ fold_skip s.order s.place (storing s applied k) (λ t. (s.copy t k).content) p (length s.order) h (λ u r l.
    bool (is_committed (s.phase u))
    (λ e. bool (is_written (s.mark u k)) (λ w. simp (not_yet u l e (c.written_x u k (committed_closed (s.phase u) e) w), and-false)) (λ w. simp (w, and-false)))
    (λ e. rw e))
    ∙ fold_cong s.order s.place (storing s applied k) (stores s k) (λ t. (s.copy t k).content) (λ t. (s.copy t k).content) p (λ u l.
    bool (is_committed (s.phase u))
    (λ e. bool (is_written (s.mark u k)) (λ w. simp (done u l e (c.written_x u k (committed_closed (s.phase u) e) w), and-true)) (λ w. simp (w, and-false)))
    (λ e. rw e)) (λ u l e. refl)
