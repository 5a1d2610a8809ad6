-- What the commands rely on holds in every state that commands lead to: it follows from the theorem's invariant, and the engine proves none of its own.
use Prim.Native.Nat.{ℕ, ◌≤◌, ◌<◌}
use mathlib.Core.Path.{◌≡◌, refl, sym, ◌∙◌}
use mathlib.Core.Bool.{Bool, true, false, not, ◌&&◌, ◌||◌, and-true}
use native.Mathlib.Omega.{arith}
use lib.ListN.{length, get_or}
use borrow.Author.Tests.{lt-ltb, le-ltb}
use Rattle.rules.specs.Sizes.{max_sheets, max_commands}
use Rattle.rules.specs.State.{State, is_first, is_submitted, is_second, over, claims, at}
use Rattle.rules.specs.Steps.{mem, has_taken}
use Rattle.rules.proofs.Table.{bool, below?, clash, and_l}
use Rattle.rules.proofs.Invariant.{needs_place, joined, live}
use Rattle.rules.proofs.Places.{entries, entries_in, entries_out}
use Rattle.rules.proofs.Phases.{follows}
use Rattle.rules.proofs.Reached.{Reached, runs_fit, places_fit}
use Rattle.state.specs.Fit.{Known}

-- a save that waits has an entry at each claimed sheet whose node has taken it: none of its entries was carried out
module _ (s : State) (r : Reached s) (t k : ℕ) (e : is_submitted (s.phase t) ≡ true) where
  not_applied : r.history.applied (s.header.owner k) t ≡ false
  not_applied = bool (r.history.applied (s.header.owner k) t)
      (λ y. clash (over (s.phase t)) (r.inv.locks.applied_over (s.header.owner k) t y) (follows is_submitted over true false refl (s.phase t) e))
      (λ y. y)

  here : (s.place t < length s.order) × (at s.order (s.place t) ≡ t)
  here = r.inv.places.stands t (follows is_submitted needs_place true true refl (s.phase t) e)

  lives : live s.header.owner s.claim r.history.applied k t ≡ claims (s.claim t k)
  unfolding live
  lives = rw not_applied (and-true (claims (s.claim t k)))

  waits : mem t (s.queue k) ≡ (claims (s.claim t k) && has_taken s (s.header.owner k) t)
  waits = rw (r.inv.queues k) (bool (claims (s.claim t k))
      (λ y. below? (s.place t) (s.taken (s.header.owner k))
      (λ l. rw (y, lt-ltb (s.place t) (s.taken (s.header.owner k)) l) (entries_in s.order s.place f (s.taken (s.header.owner k)) t l here.1 (lives ∙ y)))
      (λ l. rw (y, le-ltb (s.place t) (s.taken (s.header.owner k)) l) (none (λ a o w. absurd (no l a)))))
      (λ y. rw y (none (λ a o w. clash (claims (s.claim t k)) (sym lives ∙ w) y))))
    where
      f : ℕ → Bool
      f = live s.header.owner s.claim r.history.applied k

      no : {a b : ℕ} → b ≤ a → a < b → ⊥
      no h l = omega arith

      none : (s.place t < s.taken (s.header.owner k) → at s.order (s.place t) ≡ t → f t ≡ true → ⊥)
          → mem t (entries s.order s.place f (s.taken (s.header.owner k))) ≡ false
      none n = bool (mem t (entries s.order s.place f (s.taken (s.header.owner k))))
          (λ m. absurd (entries_out s.order s.place f (s.taken (s.header.owner k)) t m n))
          (λ m. m)

module _ (s : State) (r : Reached s) (nodes : s.header.nodes ≤ 8) (sheets : s.header.sheets ≤ max_sheets) (owners : (k : ℕ) → s.header.owner k < 8) (few : s.tally.accepted ≤ max_commands) where
  claims_live : (k u : ℕ) → live s.header.owner s.claim r.history.applied k u ≡ true → claims (s.claim u k) ≡ true
  unfolding live
  claims_live k u e = and_l (claims (s.claim u k)) (not (r.history.applied (s.header.owner k) u)) e

  pub known : Known s
  known = record {
    nodes8 = nodes;
    sheets16 = omega arith;
    owners = λ k _. owners k;
    takens = λ n _. r.inv.places.bound n;
    small = λ q l. r.inv.places.small (get_or s.order q 0) (r.inv.places.placed q l);
    joined = λ q l. follows joined is_first true false refl (s.phase (get_or s.order q 0)) (r.inv.places.placed q l);
    stands = λ t _ e. r.inv.places.stands t (follows (λ p. is_submitted p || is_second p) needs_place true true refl (s.phase t) e);
    room = λ t l e. omega (arith, places_fit s r t l e);
    runs = λ t _. omega (arith, runs_fit s r t);
    entered = λ u k e. entries_out s.order s.place _ (s.taken (s.header.owner k)) u (rw (r.inv.queues k) at e) (λ l _ _. l);
    claimed = λ u k e. entries_out s.order s.place _ (s.taken (s.header.owner k)) u (rw (r.inv.queues k) at e) (λ _ _ l. claims_live k u l);
    waits = λ t k e. waits s r t k e;
  }

  -- a write counter can rise
  pub rises : (k : ℕ) → (s.sheet k).wct < 65535
  rises k = omega (arith, r.figures.wct k)
