-- A save without a place joins the end of the order.
use Prim.Native.Nat.{ℕ, suc, ◌+◌, ◌*◌, ◌≤◌, ◌<◌}
use mathlib.Core.Path.{◌≡◌, refl, sym, ap, ◌∙◌, fun_ext, subst}
use mathlib.Core.Bool.{Bool, true, false, and-false, or-true, or-false}
use mathlib.Core.Logic.{◌≢◌}
use mathlib.Core.List.{List, [], ◌∷◌, ◌++◌}
use native.Mathlib.Omega.{arith}
use native.Mathlib.Nat.{le_refl}
use native.Mathlib.Numerals.{add-one}
use lib.ListN.{length, get_or, set, take, length-drop}
use lib.Seq.{get_or-set_same, get_or-set_other, get_or-take, drop-set-add, take-suc-set}
use lib.Dec.{eqb, ltb}
use borrow.Author.Tests.{eq-eqb, ne_eqb, lt-ltb, le-ltb}
use Rattle.rules.specs.Table.{upd}
use Rattle.rules.specs.State.{submitted, Tally, at}
use Rattle.rules.specs.Steps.{without, counted, join_order}
use Rattle.rules.proofs.Table.{bool, same?, below?, clash, upd_same, upd_other}
use Rattle.rules.proofs.Places.{by, entries, entries_by, entries_without, entries_moved, snoc_new}
use Rattle.sets.specs.Bit.{bit}
use Rattle.sets.proofs.Bits.{bit_none}
use Rattle.state.specs.Slices.{Slices}
use Rattle.state.specs.View.{as_phase, set?, part, mark_of, placed, place_in, order_in, queue_of, queue_x_of, queued, shown, PHASE, FAILED, RUNS, NODES, ORDER, PLACE, TAKEN, BEFORE, JOINED, QUEUE}
use Rattle.state.specs.Fit.{most_places, Sized, Sets, Last, Queues, Places, Kept}
use Rattle.state.specs.Lent.{saving}
use Rattle.state.proofs.Bytes.{phase_in, failed_in, Bytes, bytes_same, phase_stored, mark_stored}
use Rattle.state.proofs.Known.{order_length}
use Rattle.state.proofs.Parts.{part_in, part_past, part_same, part_apart, queue_past, queue_same, queue_x_same}
use Rattle.state.proofs.Steps.{same_state}
use Rattle.joining.specs.Joining.{Placing, waiting, Joining}
use Rattle.joining.proofs.Seats.{seated_long}
use Rattle.submits.proofs.Claiming.{copied_same, written_same, held_same, owner_same, claim_x_other, claims_after, sets_after}

-- what a joining starts from: save t has no entry and is not placed, the others are as ever
pub record Free (m t : ℕ) (b s q : List ℕ) : Type 0 where
  pub sized : Sized m b s q
  pub room : placed q < most_places
  pub sets : Sets m s
  pub queues : Queues m b s q
  pub no_entry : (k : ℕ) → k < m → queued m q k t ≡ false
  pub before : (u v : ℕ) → u < 32 → v < 32 → u ≢ t → v ≢ t → Last b q u → Last b q v → bit (part BEFORE 32 q u) v ≡ ltb (place_in q v) (place_in q u)
  pub joined : (u : ℕ) → u < 32 → u ≢ t → Last b q u → bit (get_or q JOINED 0) u ≡ true
  pub last : (u : ℕ) → bit (get_or q JOINED 0) u ≡ true → (u < 32) × Last b q u
  pub out : bit (get_or q JOINED 0) t ≡ false
  pub among : (u v : ℕ) → u < 32 → bit (part BEFORE 32 q u) v ≡ true → bit (get_or q JOINED 0) v ≡ true

-- the entries before place n by the first n places alone
entries_cut : (order : List ℕ) (place : ℕ → ℕ) (f : ℕ → Bool) (n : ℕ) → entries order place f n ≡ entries (take n order) place f n
unfolding by
entries_cut order place f n = entries_by order (take n order) place place f f n here (λ q l. by_at q (here q l))
  where
    here : (q : ℕ) → q < n → at order q ≡ at (take n order) q
    here q l = sym (get_or-take n order q 0 l)

    by_at : (q : ℕ) → at order q ≡ at (take n order) q → by order place f q ≡ by (take n order) place f q
    by_at q e = rw e

-- a save without an entry takes the place after n
joined_at_end : (order : List ℕ) (place : ℕ → ℕ) (f : ℕ → Bool) (t : ℕ) → f t ≡ false
    → entries (order ++ t ∷ []) (upd place t (length order)) f (suc (length order)) ≡ without t (entries order place f (length order))
unfolding entries by
joined_at_end order place f t z = rw (snoc_new order place t, z, and-false (eqb (upd place t (length order) t) (length order)))
    (sym (entries_moved order place t f f (length order) (le_refl (length order)) (λ u d. refl)) ∙ sym (entries_without order place f t (length order)))

entries_joined : (order : List ℕ) (place : ℕ → ℕ) (f : ℕ → Bool) (t n : ℕ) → length order ≡ n → f t ≡ false
    → entries (order ++ t ∷ []) (upd place t n) f (suc n) ≡ without t (entries order place f n)
entries_joined order place f t n e z =
    subst (λ (k : ℕ). entries (order ++ t ∷ []) (upd place t k) f (suc k) ≡ without t (entries order place f k)) e (joined_at_end order place f t z)

module _ {m t : ℕ} (t32 : t < 32) {b s q b' s' q' : List ℕ} (f : Free m t b s q) (j : Joining m t b s q b' s' q') where
  abbrev n : ℕ
  n = placed q

  p : Placing t (waiting t b) q b' q'
  p = j.placing

  long_b : length b' ≡ length b
  long_b = seated_long b p

  -- ---- The order

  -- the bytes of a save that waits; the place comes behind them
  waits : Bytes b (waiting t b) (upd (phase_in b) t submitted) (upd (failed_in b) t false) (part RUNS 32 b)
  waits = phase_stored (mark_stored (bytes_same b) long t32 0) long t32 2
    where
      long : ORDER ≤ length b
      long = let a = f.sized.bytes in omega arith

  order_after : order_in b' ≡ set (order_in b) n t
  order_after = ap (λ (l : List ℕ). order_in l) p.order ∙ drop-set-add ORDER (waiting t b) n t ∙ ap (λ (l : List ℕ). set l n t) waits.order

  room : n < length (order_in b)
  room = rw (length-drop ORDER b) (let a = f.sized.bytes in let r = f.room in omega arith)

  at_new : at (order_in b') n ≡ t
  at_new = ap (λ (l : List ℕ). at l n) order_after ∙ get_or-set_same (order_in b) n t 0 room

  at_old : (i : ℕ) → i < n → at (order_in b') i ≡ at (order_in b) i
  at_old i h = ap (λ (l : List ℕ). at l i) order_after ∙ get_or-set_other (order_in b) n i t 0 (λ e. omega arith)

  cut : take (suc n) (order_in b') ≡ take n (order_in b) ++ t ∷ []
  cut = ap (λ (l : List ℕ). take (suc n) l) order_after ∙ take-suc-set (order_in b) n t room

  placed_after : placed q' ≡ suc n
  placed_after = p.more ∙ add-one n

  place_own : place_in q' t ≡ n
  place_own = part_in PLACE 32 q' t t32 ∙ p.place

  place_other : (u : ℕ) → u ≢ t → place_in q' u ≡ place_in q u
  place_other u d = below? u 32
      (λ h. part_in PLACE 32 q' u h ∙ p.rest (PLACE + u) (λ e. d (omega arith)) (λ e. omega arith) (λ e. omega arith) (λ e. omega arith) ∙ sym (part_in PLACE 32 q u h))
      (λ h. part_past PLACE 32 q' u h ∙ sym (part_past PLACE 32 q u h))

  place_after : place_in q' ≡ upd (place_in q) t n
  place_after = fun_ext (λ u. same? u t
      (λ e. rw (e, upd_same (place_in q) t n) place_own)
      (λ d. rw (upd_other (place_in q) t n u d) (place_other u d)))

  -- ---- Who is placed

  last_own : Last b' q' t
  last_own = (rw (place_own, placed_after) (le_refl (suc n)), ap (at (order_in b')) place_own ∙ at_new)

  there : (u : ℕ) → u ≢ t → Last b q u → Last b' q' u
  there u d l = (rw (place_other u d, placed_after) (let a = l.0 in omega arith), ap (at (order_in b')) (place_other u d) ∙ at_old (place_in q u) l.0 ∙ l.1)

  back : (u : ℕ) → u ≢ t → Last b' q' u → Last b q u
  back u d l = let a : place_in q u < suc n = rw (place_other u d, placed_after) at l.0 in let e : at (order_in b') (place_in q u) ≡ u = ap (at (order_in b')) (sym (place_other u d)) ∙ l.1 in
      same? (place_in q u) n
      (λ z. absurd (d (sym e ∙ ap (at (order_in b')) z ∙ at_new)))
      (λ z. let h : place_in q u < n = omega arith in (h, sym (at_old (place_in q u) h) ∙ e))

  -- ---- The queues

  queue_after : queue_of m q' ≡ queue_of m q
  queue_after = queue_same m q q' (λ k h. p.rest (QUEUE + 2 * k) (λ e. omega arith) (λ e. omega arith) (λ e. omega arith) (λ e. omega arith))

  queue_x_after : queue_x_of m q' ≡ queue_x_of m q
  queue_x_after = queue_x_same m q q' (λ k h. p.rest (QUEUE + 2 * k + 1) (λ e. omega arith) (λ e. omega arith) (λ e. omega arith) (λ e. omega arith))

  queues_after : Queues m b' s' q'
  queues_after = record {
    held = λ u k a h. rw (held_same m t32 j.claimed, queue_after) (f.queues.held u k a h);
    exclusive = λ u k a h. rw (queue_x_after, queue_after) (same? u t
        (λ e. f.queues.exclusive u k a h ∙ rw (e, f.no_entry k h))
        (λ d. rw (claim_x_other m t32 j.claimed u k d) (f.queues.exclusive u k a h)));
    saves = λ u k h e. f.queues.saves u k h (rw queue_after at e);
    saves_x = λ u k h e. f.queues.saves_x u k h (rw queue_x_after at e);
    listed = λ u k h e. let y : queued m q k u ≡ true = rw queue_after at e in there u (λ z. clash (queued m q k t) (rw z at y) (f.no_entry k h)) (f.queues.listed u k h y);
  }

  -- ---- Who is before whom

  before_own : part BEFORE 32 q' t ≡ get_or q JOINED 0
  before_own = part_in BEFORE 32 q' t t32 ∙ p.before

  before_other : (u : ℕ) → u < 32 → u ≢ t → part BEFORE 32 q' u ≡ part BEFORE 32 q u
  before_other u h d = part_in BEFORE 32 q' u h ∙ p.rest (BEFORE + u) (λ e. omega arith) (λ e. omega arith) (λ e. d (omega arith)) (λ e. omega arith) ∙ sym (part_in BEFORE 32 q u h)

  not_before : (u : ℕ) → u < 32 → bit (part BEFORE 32 q u) t ≡ false
  not_before u h = bool (bit (part BEFORE 32 q u) t) (λ y. clash (bit (get_or q JOINED 0) t) (f.among u t h y) f.out) (λ y. y)

  before_after : (u v : ℕ) → u < 32 → v < 32 → Last b' q' u → Last b' q' v → bit (part BEFORE 32 q' u) v ≡ ltb (place_in q' v) (place_in q' u)
  before_after u v a c k l = same? u t
      (λ e. rw (e, before_own, place_own) (same? v t
      (λ z. rw (z, f.out, place_own) (sym (le-ltb n n (le_refl n))))
      (λ d. let w = back v d l in rw (f.joined v c d w, place_other v d) (sym (lt-ltb (place_in q v) n w.0)))))
      (λ d. rw (before_other u a d, place_other u d) (same? v t
      (λ z. rw (z, not_before u a, place_own) (sym (le-ltb n (place_in q u) (let w = (back u d k).0 in omega arith))))
      (λ z. rw (place_other v z) (f.before u v a c d z (back u d k) (back v z l)))))

  joined_too : (u : ℕ) → bit (get_or q JOINED 0) u ≡ true → bit (get_or q' JOINED 0) u ≡ true
  joined_too u e = p.joined u ∙ rw e

  among_after : (u v : ℕ) → u < 32 → bit (part BEFORE 32 q' u) v ≡ true → bit (get_or q' JOINED 0) v ≡ true
  among_after u v h e = same? u t
      (λ z. joined_too v (rw (z, before_own) at e))
      (λ d. joined_too v (f.among u v h (rw (before_other u h d) at e)))

  places_after : Places b' q'
  places_after = record {
    before = before_after;
    among = among_after;
    joined = λ u a l. same? u t
        (λ e. p.joined u ∙ rw (eq-eqb u t e) (or-true (bit (get_or q JOINED 0) u)))
        (λ d. joined_too u (f.joined u a d (back u d l)));
    last = λ u e. same? u t
        (λ z. rw z (t32, last_own))
        (λ d. let w = f.last u (sym (or-false (bit (get_or q JOINED 0) u)) ∙ rw (ne_eqb u t d) at (sym (p.joined u) ∙ e)) in (w.0, there u d w.1));
  }

  pub kept_after : Kept m b' s' q'
  kept_after = record {
    sized = record {
      bytes = rw long_b f.sized.bytes;
      sets = rw j.claimed.long f.sized.sets;
      queues = rw p.long f.sized.queues;
      fits = rw placed_after f.room;
    };
    sets = sets_after m t32 j.claimed f.sets;
    queues = queues_after;
    places = places_after;
  }

  -- ---- The view

  cut_long : length (take n (order_in b)) ≡ n
  cut_long = order_length f.sized

  no_entry : (k : ℕ) → queued m q k t ≡ false
  no_entry k = below? k m (f.no_entry k) (λ h. rw (queue_past m q k h) (bit_none t))

  queue_joined : (k : ℕ) → entries (order_in b') (place_in q') (queued m q' k) (placed q') ≡ without t (entries (order_in b) (place_in q) (queued m q k) n)
  queue_joined k =
      ap (λ (w : ℕ → ℕ). entries (order_in b') (place_in q') (bit (w k)) (placed q')) queue_after ∙ ap (entries (order_in b') (place_in q') (queued m q k)) placed_after
      ∙ entries_cut (order_in b') (place_in q') (queued m q k) (suc n) ∙ ap (λ (l : List ℕ). entries l (place_in q') (queued m q k) (suc n)) cut
      ∙ ap (λ (w : ℕ → ℕ). entries (take n (order_in b) ++ t ∷ []) w (queued m q k) (suc n)) place_after
      ∙ entries_joined (take n (order_in b)) (place_in q) (queued m q k) t n cut_long (no_entry k) ∙ ap (without t) (sym (entries_cut (order_in b) (place_in q) (queued m q k) n))

  -- a table ahead of the order
  table_same : (off size : ℕ) → off + size ≤ ORDER → part off size b' ≡ part off size (waiting t b)
  table_same off size h = ap (part off size) p.order ∙ part_apart off size (waiting t b) (ORDER + n) t (λ i l e. omega arith)

  nodes_same : get_or b' NODES 0 ≡ get_or b NODES 0
  nodes_same = ap (λ (l : List ℕ). get_or l NODES 0) p.order ∙ get_or-set_other (waiting t b) (ORDER + n) NODES t 0 (λ e. omega arith) ∙ waits.nodes

  taken_same : part TAKEN 8 q' ≡ part TAKEN 8 q
  taken_same = part_same TAKEN 8 q q' (λ i h. p.rest (TAKEN + i) (λ e. omega arith) (λ e. omega arith) (λ e. omega arith) (λ e. omega arith))

  pub joins : (x : Slices) (tally : Tally) → shown m (saving b' s' q' x) (counted tally) ≡ join_order (shown m (saving b s q x) tally) t
  joins x tally = same_state
      (λ i. record { nodes = nodes_same i; sheets = m; owner = owner_same m t32 j.claimed i })
      refl
      (fun_ext queue_joined)
      ((λ i u. as_phase (table_same PHASE 32 (omega arith) i u)) ∙ waits.phased)
      (λ i u k. mark_of (copied_same m t32 j.claimed i u k) (written_same m t32 j.claimed i u k))
      refl
      (claims_after m t32 j.claimed)
      ((λ i u. set? (table_same FAILED 32 (omega arith) i u)) ∙ waits.marked)
      (table_same RUNS 32 (omega arith) ∙ waits.counted)
      (rw placed_after cut)
      (rw cut_long place_after)
      taken_same
      refl
