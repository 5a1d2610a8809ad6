-- What is known of the state, in the slices' terms.
use Prim.Native.Nat.{ℕ, ◌+◌, ◌≤◌, ◌<◌}
use mathlib.Core.Path.{◌≡◌, refl, sym, ap, ◌∙◌}
use mathlib.Core.Bool.{Bool, true, false, ◌&&◌}
use mathlib.Core.List.{List}
use native.Mathlib.Omega.{arith}
use lib.ListN.{length, set, take, length-set, length-drop}
use lib.Seq.{get_or-take, length-take-le, drop-set-lt}
use lib.Dec.{eqb}
use Rattle.rules.specs.State.{Tally, claims, at}
use Rattle.rules.specs.Steps.{x_on}
use Rattle.rules.proofs.Table.{bool, below?, clash, and_l}
use Rattle.rules.proofs.Places.{entries_in}
use Rattle.sets.specs.Bit.{in_row}
use Rattle.state.specs.Slices.{Slices}
use Rattle.state.specs.View.{part, claim_of, in_set, owner_in, placed, place_in, order_in, queued, queued_x, claim_in, shown, bare, ORDER, TAKEN, CLAIM, CLAIM_X, HELD, OWNED}
use Rattle.state.specs.Fit.{Sized, Last, Kept, Fit, Known, Rising, Ready}
use Rattle.state.proofs.Codes.{x_code}
use Rattle.state.proofs.Parts.{part_past, member_in}
use Rattle.state.proofs.Rows.{set_row}

-- bytes, sets and queues show all that is known but the counters
pub known_bare : (m : ℕ) (x : Slices) (tally : Tally) → Known (shown m x tally) → Known (bare m x.bytes x.sets x.queues)
known_bare m x tally k = record {
  nodes8 = k.nodes8;
  sheets16 = k.sheets16;
  owners = k.owners;
  takens = k.takens;
  small = k.small;
  joined = k.joined;
  stands = k.stands;
  room = k.room;
  runs = k.runs;
  entered = k.entered;
  claimed = k.claimed;
  waits = k.waits;
}

pub ready : (m : ℕ) (x : Slices) (tally : Tally) → Known (shown m x tally) → Fit m x → Ready m x.bytes x.sets x.queues
ready m x tally k f = record { kept = f.kept; known = known_bare m x tally k }

pub rising : (m : ℕ) (x : Slices) (tally : Tally) → ((k : ℕ) → k < m → ((shown m x tally).sheet k).wct < 65535) → Rising m x.sheets
rising m x tally h k = below? k m (λ l. h k l) (λ l. rw (part_past m m x.sheets k l) (omega arith))

-- ---- A sheet's owner and entries by the sets

module _ {m : ℕ} {b s q : List ℕ} (kept : Kept m b s q) {k : ℕ} (h : k < m) where
  pub owner_row : (n : ℕ) → n < 8 → eqb (owner_in m s 8 k) n ≡ in_row s (OWNED + n) k
  owner_row n l = sym (kept.sets.owners n k l h) ∙ member_in m s (OWNED + n) k h

  -- who has an entry is in the sheet's set, and the sheet in its own
  pub held_row : {t : ℕ} → t < 32 → queued m q k t ≡ in_row s (HELD + t) k
  held_row {t} l = sym (kept.queues.held t k l h) ∙ set_row m s HELD l k h

  pub x_queued : (u : ℕ) → queued_x m q k u ≡ true → queued m q k u ≡ true
  x_queued u e = and_l (queued m q k u) (in_set m CLAIM_X s u k) (sym (kept.queues.exclusive u k (kept.queues.saves_x u k h e) h) ∙ e)

  -- the X of a queue are the entries that claim X
  pub x_entries : (u : ℕ) → queued_x m q k u ≡ (queued m q k u && x_on (claim_in m s) k u)
  unfolding x_on
  x_entries u = rw (x_code (in_set m CLAIM s u k) (in_set m CLAIM_X s u k)) (bool (queued m q k u)
      (λ e. kept.queues.exclusive u k (kept.queues.saves u k h e) h)
      (λ e. bool (queued_x m q k u) (λ y. clash (queued m q k u) (x_queued u y) e) (λ y. rw e y)))

-- ---- The order

-- the order is in the bytes
pub order_length : {m : ℕ} {b s q : List ℕ} → Sized m b s q → length (take (placed q) (order_in b)) ≡ placed q
order_length {b = b} {q = q} z = length-take-le (placed q) (order_in b) (rw (length-drop ORDER b) (let a = z.bytes in let f = z.fits in omega arith))

module _ {m : ℕ} {b s q : List ℕ} (r : Ready m b s q) where
  len : length (take (placed q) (order_in b)) ≡ placed q
  len = order_length r.kept.sized

  -- each place has its save
  pub small : (p : ℕ) → p < placed q → at (order_in b) p < 32
  small p l = rw (get_or-take (placed q) (order_in b) p 0 l) at (r.known.small p (rw len l))

  pub taken_few : (n : ℕ) → n < 8 → part TAKEN 8 q n ≤ placed q
  taken_few n h = rw len at (r.known.takens n h)

  -- a place of the cut order is one of the whole
  pub last_known : (t : ℕ) → (place_in q t < length (take (placed q) (order_in b))) × (at (take (placed q) (order_in b)) (place_in q t) ≡ t) → Last b q t
  last_known t e = let l : place_in q t < placed q = rw len at e.0 in (l, sym (get_or-take (placed q) (order_in b) (place_in q t) 0 l) ∙ e.1)

  -- an entry's claim by the two sets of its queue
  pub entry_claim : (u k : ℕ) → k < m → queued m q k u ≡ true → claim_in m s u k ≡ claim_of true (queued_x m q k u)
  entry_claim u k h e =
      let l = r.kept.queues.listed u k h e in
      by (in_set m CLAIM s u k) (in_set m CLAIM_X s u k) (r.known.claimed u k (entries_in (order_in b) (place_in q) (queued m q k) (placed q) u l.0 l.1 e))
      ∙ (let x : in_set m CLAIM_X s u k ≡ queued_x m q k u = sym (r.kept.queues.exclusive u k (r.kept.queues.saves u k h e) h ∙ rw e) in ap (claim_of true) x)
    where
      by : (c x : Bool) → claims (claim_of c x) ≡ true → claim_of c x ≡ claim_of true x
      by c true y = refl
      by true false y = refl
      by false false y = clash false y refl

-- ---- A byte ahead of the order changes

pub order_same : (b : List ℕ) (i v : ℕ) → i < ORDER → order_in (set b i v) ≡ order_in b
order_same b i v h = drop-set-lt ORDER b i v h

pub kept_byte : {m : ℕ} {b s q : List ℕ} (i v : ℕ) → i < ORDER → Kept m b s q → Kept m (set b i v) s q
kept_byte {b = b} {q = q} i v h k = record {
  sized = record { bytes = rw length-set k.sized.bytes; sets = k.sized.sets; queues = k.sized.queues; fits = k.sized.fits };
  sets = k.sets;
  queues = record {
    held = k.queues.held;
    exclusive = k.queues.exclusive;
    saves = k.queues.saves;
    saves_x = k.queues.saves_x;
    listed = λ u w l e. there u (k.queues.listed u w l e);
  };
  places = record {
    before = λ u w a c p r. k.places.before u w a c (back u p) (back w r);
    among = k.places.among;
    joined = λ u a p. k.places.joined u a (back u p);
    last = λ u e. ((k.places.last u e).0, there u (k.places.last u e).1);
  };
}
  where
    there : (u : ℕ) → Last b q u → Last (set b i v) q u
    there u p = (p.0, ap (λ (o : List ℕ). at o (place_in q u)) (order_same b i v h) ∙ p.1)

    back : (u : ℕ) → Last (set b i v) q u → Last b q u
    back u p = (p.0, sym (ap (λ (o : List ℕ). at o (place_in q u)) (order_same b i v h)) ∙ p.1)
