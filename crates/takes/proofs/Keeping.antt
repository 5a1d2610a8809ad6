-- What TAKE's changes keep: a node's count of places, then a save's entries.
use Prim.Native.Nat.{ℕ, ◌+◌, ◌*◌, ◌/◌, ◌%◌, ◌<◌}
use mathlib.Core.Path.{◌≡◌, refl, ap, ◌∙◌}
use mathlib.Core.Bool.{Bool, true, false, ◌&&◌, ◌||◌, or-false, and-true, and-false}
use mathlib.Core.List.{List}
use native.Mathlib.Omega.{arith}
use lib.ListN.{set, length-set}
use lib.Seq.{get_or-set_other}
use lib.Dec.{eqb, ltb}
use borrow.Author.Tests.{eq-eqb, ne_eqb, lt-ltb}
use Rattle.rules.proofs.Table.{same?}
use Rattle.sets.specs.Bit.{bit, in_row, blocks}
use Rattle.state.specs.View.{queue_of, queue_x_of, queued, queued_x, in_set, CLAIM, CLAIM_X, HELD, TAKEN, QUEUE}
use Rattle.state.specs.Fit.{Ends, Last, Kept}
use Rattle.state.proofs.Keeping.{Ahead, placed_same, last_on, places_same, Entries, kept_entries}
use Rattle.state.proofs.Parts.{queue_in, queue_x_in, queue_same, queue_x_same, in_block}
use Rattle.state.proofs.Rows.{set_row}
use Rattle.entering.specs.Enter.{Entered, Held, ours, ours_x}

-- ---- A node's count

module _ (q : List ℕ) (n v : ℕ) (n8 : n < 8) where
  abbrev q₁ : List ℕ
  q₁ = set q (TAKEN + n) v

  pub apart : Ahead q q₁
  apart = record { same = λ i h d. get_or-set_other q (TAKEN + n) i v 0 (d n n8) }

  pub queue_apart : (m : ℕ) → queue_of m q₁ ≡ queue_of m q
  queue_apart m = queue_same m q q₁ (λ k h. get_or-set_other q (TAKEN + n) (QUEUE + 2 * k) v 0 (λ e. omega arith))

  queue_x_apart : (m : ℕ) → queue_x_of m q₁ ≡ queue_x_of m q
  queue_x_apart m = queue_x_same m q q₁ (λ k h. get_or-set_other q (TAKEN + n) (QUEUE + 2 * k + 1) v 0 (λ e. omega arith))

  pub kept_count : {m : ℕ} {b s : List ℕ} → Kept m b s q → Kept m b s q₁
  kept_count {m} {b} z = record {
    sized = record { bytes = z.sized.bytes; sets = z.sized.sets; queues = rw length-set z.sized.queues; fits = rw (placed_same apart) z.sized.fits };
    sets = z.sets;
    queues = record {
      held = λ u k a l. rw (queue_apart m) (z.queues.held u k a l);
      exclusive = λ u k a l. rw (queue_apart m, queue_x_apart m) (z.queues.exclusive u k a l);
      saves = λ u k l e. z.queues.saves u k l (rw (queue_apart m) at e);
      saves_x = λ u k l e. z.queues.saves_x u k l (rw (queue_x_apart m) at e);
      listed = λ u k l e. last_on apart b u (z.queues.listed u k l (rw (queue_apart m) at e));
    };
    places = places_same apart b z.places;
  }

-- ---- A save's entries

module _ {m n t : ℕ} {s s' q q' : List ℕ} (held : Held m n t (blocks m) s s') (en : Entered m t (ours s n t) (ours_x s n t) q q') where
  pub queued_code : (k u : ℕ) → k < m → queued m q' k u ≡ (queued m q k u || (ours s n t k && eqb u t))
  queued_code k u l = ap (λ (z : ℕ). bit z u) (queue_in m q' k l) ∙ en.queue k u l ∙ rw (queue_in m q k l)

  x_code : (k u : ℕ) → k < m → queued_x m q' k u ≡ (queued_x m q k u || (ours_x s n t k && eqb u t))
  x_code k u l = ap (λ (z : ℕ). bit z u) (queue_x_in m q' k l) ∙ en.queue_x k u l ∙ rw (queue_x_in m q k l)

  pub entered : Entries m t s q s' q'
  entered = record {
    long_s = held.long;
    long_q = en.long;
    ahead = en.rest;
    rest = held.rest;
    others = λ k u l d. queued_code k u l ∙ rw (ne_eqb u t d, and-false (ours s n t k)) (or-false (queued m q k u));
    others_x = λ k u l d. x_code k u l ∙ rw (ne_eqb u t d, and-false (ours_x s n t k)) (or-false (queued_x m q k u));
  }

  module _ (t32 : t < 32) where
    held_now : (k : ℕ) → k < m → in_set m HELD s' t k ≡ (in_set m HELD s t k || ours s n t k)
    unfolding in_row
    held_now k l = set_row m s' HELD t32 k l ∙ held.here (k / 64) (k % 64) (in_block m k l) ∙ rw (lt-ltb (k / 64) (blocks m) (in_block m k l), set_row m s HELD t32 k l)

    ends_now : Ends m s → Ends m s'
    ends_now ends i j c a b d h = same? i (HELD + t)
        (λ e. rw e (held.here j c b ∙ rw (ends (HELD + t) j c (omega arith) b d h, ends (CLAIM + t) j c (omega arith) b d h, and-false (ltb j (blocks m)))))
        (λ e. rw (held.rest i j a b e) (ends i j c a b d h))

    pub kept_entered : {b : List ℕ} → Kept m b s q → Last b q t → Kept m b s' q'
    kept_entered z last = kept_entries entered t32
        (λ k l. rw (held_now k l, queued_code k t l, eq-eqb t t refl, and-true (ours s n t k), z.queues.held t k t32 l))
        (λ k l. rw (x_code k t l, queued_code k t l, z.queues.exclusive t k t32 l, eq-eqb t t refl, set_row m s CLAIM_X t32 k l) (both (queued m q k t) (ours s n t k) (in_row s (CLAIM_X + t) k)))
        (ends_now z.sets.ends) z (λ k l e. last)
      where
        both : (a o c : Bool) → ((a && c) || ((o && c) && true)) ≡ ((a || (o && true)) && c)
        both true true true = refl
        both true true false = refl
        both true false true = refl
        both true false false = refl
        both false true true = refl
        both false true false = refl
        both false false c = refl
