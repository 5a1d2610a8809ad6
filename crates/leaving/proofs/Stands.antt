-- What stands where a save's entries are gone.
use Prim.Native.Nat.{ℕ, ◌+◌, ◌/◌, ◌%◌, ◌<◌}
use mathlib.Core.Path.{◌≡◌, refl, sym, ap, ◌∙◌}
use mathlib.Core.Bool.{Bool, true, false, not, ◌&&◌, and-true, and-false}
use mathlib.Core.Logic.{◌≢◌}
use mathlib.Core.List.{List}
use lib.Dec.{eqb}
use borrow.Author.Tests.{eq-eqb, ne_eqb}
use Rattle.rules.proofs.Table.{and_l}
use Rattle.sets.specs.Bit.{bit, in_row}
use Rattle.state.specs.View.{queued, queued_x, in_set, rows, CLAIM_X, HELD}
use Rattle.state.specs.Fit.{Kept}
use Rattle.state.proofs.Keeping.{Entries, kept_entries}
use Rattle.state.proofs.Rows.{set_row}
use Rattle.leaving.specs.Left.{Left}

-- another save's
other : (a h e : Bool) → e ≡ false → (a && not (h && e)) ≡ a
other a h e z = rw (z, and-false h) (and-true a)

module _ {m t : ℕ} {hit : ℕ → Bool} {s q s' q' : List ℕ} (g : Left m t hit s q s' q') where
  pub left : Entries m t s q s' q'
  left = record {
    long_s = g.long_s;
    long_q = g.long_q;
    ahead = g.ahead;
    rest = λ i j h _ d. g.rest i j h d;
    others = λ k u h d. g.queue k u h ∙ other (queued m q k u) (hit k) (eqb u t) (ne_eqb u t d);
    others_x = λ k u h d. g.queue_x k u h ∙ other (queued_x m q k u) (hit k) (eqb u t) (ne_eqb u t d);
  }

  -- another row
  pub row_left : (i k : ℕ) → i < rows → i ≢ HELD + t → in_row s' i k ≡ in_row s i k
  unfolding in_row
  row_left i k h d = ap (λ (x : ℕ). bit x (k % 64)) (g.rest i (k / 64) h d)

  -- the save's own
  own : (k : ℕ) → k < m → queued m q' k t ≡ (queued m q k t && not (hit k))
  own k h = g.queue k t h ∙ rw (eq-eqb t t refl, and-true (hit k))

  pub kept_left : t < 32 → {b : List ℕ} → Kept m b s q → Kept m b s' q'
  kept_left t32 f = kept_entries left t32
      (λ k h. rw (set_row m s' HELD t32 k h, g.held k h, own k h, ← f.queues.held t k t32 h, set_row m s HELD t32 k h))
      (λ k h. rw (g.queue_x k t h, own k h, eq-eqb t t refl, and-true (hit k), f.queues.exclusive t k t32 h) (turn (queued m q k t) (in_set m CLAIM_X s t k) (not (hit k))))
      g.ends f (λ k h e. f.queues.listed t k h (and_l (queued m q k t) (not (hit k)) (sym (own k h) ∙ e)))
    where
      turn : (a c z : Bool) → ((a && c) && z) ≡ ((a && z) && c)
      turn true true true = refl
      turn true true false = refl
      turn true false true = refl
      turn true false false = refl
      turn false c z = refl
