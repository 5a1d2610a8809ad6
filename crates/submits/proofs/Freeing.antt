-- A save that may join: in its first run, or after it has left its place.
use Prim.Native.Nat.{ℕ, ◌+◌, ◌*◌, ◌<◌}
use mathlib.Core.Path.{◌≡◌, refl, sym, ◌∙◌, fun_ext}
use mathlib.Core.Bool.{Bool, true, false, not, ◌&&◌, true≢false, and-true, and-false}
use mathlib.Core.Logic.{◌≢◌}
use mathlib.Core.List.{List, [], ◌∷◌, ◌++◌}
use native.Mathlib.Omega.{arith}
use lib.ListN.{length, get_or, take}
use lib.Seq.{get_or-take}
use lib.Dec.{eqb}
use borrow.Author.Tests.{eq-eqb, ne_eqb}
use Rattle.rules.specs.Table.{upd}
use Rattle.rules.specs.State.{Mark, Tally, is_first, running, joined_claim, at}
use Rattle.rules.specs.Steps.{without, join_order}
use Rattle.rules.proofs.Table.{bool, same?, below?, and_l, and_r}
use Rattle.rules.proofs.Places.{entries, entries_cong, entries_without}
use Rattle.sets.specs.Bit.{bit, in_row}
use Rattle.state.specs.Slices.{Slices}
use Rattle.state.specs.View.{as_phase, part, in_set, mark_of, claim_of, placed, place_in, order_in, queue_of, queue_x_of, queued, shown, NODES, PHASE, PLACE, TAKEN, PLACED, BEFORE, JOINED, QUEUE, COPIED, WRITTEN, CLAIM, CLAIM_X, HELD}
use Rattle.state.specs.Fit.{most_places, Last, Queues, Kept, Ready}
use Rattle.state.specs.Lent.{saving}
use Rattle.state.proofs.Keeping.{Ahead, placed_same, place_same, entries_ahead, entries_taken, entries_sets, entries_owner}
use Rattle.state.proofs.Known.{order_length}
use Rattle.state.proofs.Parts.{part_in, part_same, queue_past, queue_same, queue_x_same}
use Rattle.state.proofs.Rows.{set_row}
use Rattle.state.proofs.Steps.{same_state}
use Rattle.leaving.specs.Left.{Left}
use Rattle.leaving.proofs.Stands.{left}
use Rattle.joining.specs.Joining.{Freed}
use Rattle.submits.proofs.Joins.{Free}

-- ---- In the first run

module _ {m t : ℕ} {b s q : List ℕ} (r : Ready m b s q) (t32 : t < 32) where
  -- a running save finds a place
  pub finds_room : running (as_phase (part PHASE 32 b t)) ≡ true → placed q < most_places
  finds_room e = rw (order_length r.kept.sized) at (r.known.room t t32 e)

  module _ (first : part PHASE 32 b t ≡ 1) where
    -- a placed save is past it
    not_placed : Last b q t → ⊥
    not_placed l =
        let h : place_in q t < length (take (placed q) (order_in b)) = rw (order_length r.kept.sized) l.0 in
        let e : at (take (placed q) (order_in b)) (place_in q t) ≡ t = get_or-take (placed q) (order_in b) (place_in q t) 0 l.0 ∙ l.1 in
        let z : is_first (as_phase (part PHASE 32 b t)) ≡ false = rw e at (r.known.joined (place_in q t) h) in
        true≢false (rw first at z)

    pub first_free : Free m t b s q
    first_free = record {
      sized = r.kept.sized;
      room = finds_room (rw first);
      sets = r.kept.sets;
      queues = r.kept.queues;
      no_entry = λ k h. bool (queued m q k t) (λ e. absurd (not_placed (r.kept.queues.listed t k h e))) (λ e. e);
      before = λ u v a c _ _. r.kept.places.before u v a c;
      joined = λ u a _. r.kept.places.joined u a;
      last = r.kept.places.last;
      out = bool (bit (get_or q JOINED 0) t) (λ e. absurd (not_placed (r.kept.places.last t e).1)) (λ e. e);
      among = r.kept.places.among;
    }

-- ---- Its place given up

module _ (m : ℕ) {t : ℕ} (b s : List ℕ) {q q' : List ℕ} (g : Freed t q q') where
  place_freed : place_in q' ≡ place_in q
  place_freed = part_same PLACE 32 q q' (λ i h. g.front (PLACE + i) (omega arith))

  placed_freed : placed q' ≡ placed q
  placed_freed = g.front PLACED (omega arith)

  queue_freed : queue_of m q' ≡ queue_of m q
  queue_freed = queue_same m q q' (λ k h. g.back (QUEUE + 2 * k) (omega arith))

  queue_x_freed : queue_x_of m q' ≡ queue_x_of m q
  queue_x_freed = queue_x_same m q q' (λ k h. g.back (QUEUE + 2 * k + 1) (omega arith))

  there : (u : ℕ) → Last b q u → Last b q' u
  there u l = rw (place_freed, placed_freed) l

  back : (u : ℕ) → Last b q' u → Last b q u
  back u l = rw (place_freed, placed_freed) at l

  before_freed : (u v : ℕ) → u < 32 → bit (part BEFORE 32 q' u) v ≡ (bit (part BEFORE 32 q u) v && not (eqb v t))
  before_freed u v h = rw (part_in BEFORE 32 q' u h, part_in BEFORE 32 q u h) (g.before u v h)

  -- another save's stand
  stands : (x v : ℕ) (y : Bool) → v ≢ t → y ≡ (bit x v && not (eqb v t)) → y ≡ bit x v
  stands x v y d e = e ∙ rw (ne_eqb v t d) (and-true (bit x v))

  pub freed_free : Kept m b s q → placed q < most_places → ((k : ℕ) → k < m → queued m q k t ≡ false) → Free m t b s q'
  freed_free k room none = record {
    sized = record { bytes = k.sized.bytes; sets = k.sized.sets; queues = rw g.long k.sized.queues; fits = rw placed_freed k.sized.fits };
    room = rw placed_freed room;
    sets = k.sets;
    queues = record {
      held = λ u i a h. rw queue_freed (k.queues.held u i a h);
      exclusive = λ u i a h. rw (queue_freed, queue_x_freed) (k.queues.exclusive u i a h);
      saves = λ u i h e. k.queues.saves u i h (rw queue_freed at e);
      saves_x = λ u i h e. k.queues.saves_x u i h (rw queue_x_freed at e);
      listed = λ u i h e. there u (k.queues.listed u i h (rw queue_freed at e));
    };
    no_entry = λ i h. rw queue_freed (none i h);
    before = λ u v a c _ d l w. rw place_freed (stands (part BEFORE 32 q u) v (bit (part BEFORE 32 q' u) v) d (before_freed u v a) ∙ k.places.before u v a c (back u l) (back v w));
    joined = λ u a d l. stands (get_or q JOINED 0) u (bit (get_or q' JOINED 0) u) d (g.joined u) ∙ k.places.joined u a (back u l);
    last = λ u e. let w = k.places.last u (and_l (bit (get_or q JOINED 0) u) (not (eqb u t)) (sym (g.joined u) ∙ e)) in (w.0, there u w.1);
    out = g.joined t ∙ rw (eq-eqb t t refl) (and-false (bit (get_or q JOINED 0) t));
    among = λ u v h e. let y : (bit (part BEFORE 32 q u) v && not (eqb v t)) ≡ true = sym (before_freed u v h) ∙ e in
        g.joined v ∙ rw (k.places.among u v h (and_l (bit (part BEFORE 32 q u) v) (not (eqb v t)) y)) (and_r (bit (part BEFORE 32 q u) v) (not (eqb v t)) y);
  }

  -- which the view does not show
  pub freed_view : (x : Slices) (tally : Tally) → shown m (saving b s q x) tally ≡ shown m (saving b s q' x) tally
  freed_view x tally = sym (same_state refl refl
      (λ i k. entries (order_in b) (place_freed i) (bit (queue_freed i k)) (placed_freed i)) refl refl refl refl refl refl
      (λ i. take (placed_freed i) (order_in b)) place_freed
      (part_same TAKEN 8 q q' (λ i h. g.front (TAKEN + i) (omega arith)))
      refl)

-- ---- Its entries gone

module _ {m t : ℕ} {hit : ℕ → Bool} (b : List ℕ) {s q s' q' : List ℕ} (t32 : t < 32) (g : Left m t hit s q s' q') where
  pub no_entry_left : Queues m b s q → ((k : ℕ) → hit k ≡ (in_row s (HELD + t) k && in_row s (HELD + t) k)) → (k : ℕ) → k < m → queued m q' k t ≡ false
  no_entry_left z e k h = g.queue k t h ∙ rw (e k, eq-eqb t t refl, ← own) (none (in_row s (HELD + t) k))
    where
      own : in_row s (HELD + t) k ≡ queued m q k t
      own = sym (set_row m s HELD t32 k h) ∙ z.held t k t32 h

      none : (a : Bool) → (a && not ((a && a) && true)) ≡ false
      none true = refl
      none false = refl

  others_left : (k u : ℕ) → (queued m q k u && not (eqb u t)) ≡ (queued m q' k u && not (eqb u t))
  others_left k u = below? k m
      (λ h. same? u t
      (λ e. rw (eq-eqb u t e, and-false (queued m q k u), and-false (queued m q' k u)))
      (λ d. rw ((left g).others k u h d)))
      (λ h. rw (queue_past m q k h, queue_past m q' k h))

  ahead : Ahead q q'
  ahead = entries_ahead (left g)

  -- the joining takes them out of the queues in any case
  pub left_view : (x : Slices) (tally : Tally) → join_order (shown m (saving b s q x) tally) t ≡ join_order (shown m (saving b s' q' x) tally) t
  left_view x tally = sym (same_state
      (λ i. record { nodes = get_or b NODES 0; sheets = m; owner = entries_owner (left g) t32 i })
      refl
      (fun_ext queue_left)
      refl
      (λ i. marks i)
      refl
      (λ i. joined_claim (λ u k. claim_of (entries_sets (left g) CLAIM (omega arith) i u k) (entries_sets (left g) CLAIM_X (omega arith) i u k)) (marks i) t)
      refl refl
      (λ i. take (placed_same ahead i) (order_in b) ++ t ∷ [])
      (λ i. upd (place_same ahead i) t (length (take (placed_same ahead i) (order_in b))))
      (entries_taken (left g))
      refl)
    where
      marks : ◌≡◌ {A = ℕ → ℕ → Mark} (λ u k. mark_of (in_set m COPIED s' u k) (in_set m WRITTEN s' u k)) (λ u k. mark_of (in_set m COPIED s u k) (in_set m WRITTEN s u k))
      marks i u k = mark_of (entries_sets (left g) COPIED (omega arith) i u k) (entries_sets (left g) WRITTEN (omega arith) i u k)

      queue_left : (k : ℕ) → without t (entries (order_in b) (place_in q') (queued m q' k) (placed q')) ≡ without t (entries (order_in b) (place_in q) (queued m q k) (placed q))
      queue_left k = (λ i. without t (entries (order_in b) (place_same ahead i) (queued m q' k) (placed_same ahead i)))
          ∙ entries_without (order_in b) (place_in q) (queued m q' k) t (placed q)
          ∙ sym (entries_cong (order_in b) (place_in q) (λ u. queued m q k u && not (eqb u t)) (λ u. queued m q' k u && not (eqb u t)) (placed q) (others_left k))
          ∙ sym (entries_without (order_in b) (place_in q) (queued m q k) t (placed q))
