-- Slices of zeros, with the node count and the owners' sets stored, are what a session starts from.
use Prim.Native.Nat.{ℕ, zero, suc, ◌+◌, ◌-◌, ◌*◌, ◌/◌, ◌%◌, ◌≤◌, ◌<◌}
use mathlib.Core.Path.{◌≡◌, refl, sym, ap, ◌∙◌, fun_ext}
use mathlib.Core.Bool.{false, ◌&&◌, ◌||◌, cond, and-false, or-false}
use mathlib.Core.Logic.{◌≢◌}
use mathlib.Core.List.{List}
use native.Mathlib.Omega.{arith}
use lib.ListN.{length, get_or, set, replicate, length-set, length-replicate}
use lib.Seq.{get_or-set_same}
use lib.Dec.{eqb, ltb}
use borrow.Author.Tests.{eq-eqb, ne_eqb, lt-ltb, le-ltb}
use Rattle.rules.specs.State.{fresh}
use Rattle.rules.proofs.Table.{below?, same?, clash}
use Rattle.rules.proofs.Places.{entries}
use Rattle.sets.specs.Bit.{bit, word, in_row, stride, blocks}
use Rattle.sets.proofs.Bits.{bit_none}
use Rattle.state.specs.Slices.{Slices, slices}
use Rattle.state.specs.View.{part, flat, member, in_set, owner_in, placed, queued, queued_x, shown, no_tally, COPIED, WRITTEN, CLAIM, CLAIM_X, HELD, OWNED, ORDER, QUEUE, PHASE, FAILED, RUNS, NODES, TAKEN, PLACED, BEFORE, JOINED, rows}
use Rattle.state.specs.Fit.{Fit}
use Rattle.state.specs.Stored.{Stored}
use Rattle.state.specs.Starts.{Zero, Blank, header_by, Starts}
use Rattle.state.proofs.Parts.{part_in, part_past, part_apart, queue_in, queue_past, queue_x_in, queue_x_past, flat_in, flat_past, member_in, member_past, in_block, set_in, set_past}
use Rattle.state.proofs.Steps.{same_state}
use Rattle.state.proofs.Tables.{past}

pub zeros : (n : ℕ) → Zero (replicate n 0)
zeros zero i = refl
zeros (suc n) zero = refl
zeros (suc n) (suc i) = zeros n i

-- ---- The owners' sets, owner by owner

-- the first k sheets are in their owners' sets, and nothing else is in any
pub record Owned (m : ℕ) (owners s₀ s : List ℕ) (k : ℕ) : Type 0 where
  pub long : length s ≡ length s₀
  pub rest : (i j : ℕ) → i < OWNED → get_or s (i + stride * j) 0 ≡ 0
  pub bits : (n j c : ℕ) → n < 8 → c < 64 → bit (word s (OWNED + n) j) c ≡ (ltb (64 * j + c) k && eqb (get_or owners (64 * j + c) 0) n)

pub owned_none : (m : ℕ) (owners s : List ℕ) → Zero s → Owned m owners s s 0
owned_none m owners s z = record {
  long = refl;
  rest = λ i j _. z (i + stride * j);
  bits = λ n j c _ _. rw (z (OWNED + n + stride * j), le-ltb (64 * j + c) 0 (omega arith)) (bit_none c);
}

module _ (n' j' n j : ℕ) (a : n' < 8) (b : n < 8) where
  apart : OWNED + n' + stride * j' ≡ OWNED + n + stride * j → (n' ≡ n) × (j' ≡ j)
  apart e = (omega arith, omega arith)

-- the next sheet alone
next_sheet : (k j c : ℕ) → c < 64 → 64 * j + c ≢ k → ltb (64 * j + c) (k + 1) ≡ ltb (64 * j + c) k
next_sheet k j c h d = below? (64 * j + c) k
    (λ l. lt-ltb (64 * j + c) (k + 1) (omega arith) ∙ sym (lt-ltb (64 * j + c) k l))
    (λ l. le-ltb (64 * j + c) (k + 1) (omega arith) ∙ sym (le-ltb (64 * j + c) k l))

pub owned_on : (m : ℕ) (owners s₀ : List ℕ) {s s' : List ℕ} (k : ℕ) {n : ℕ} → n ≡ get_or owners k 0 → n < 8 → Owned m owners s₀ s k
    → Stored (OWNED + n + stride * (k / 64)) (λ c. bit (word s (OWNED + n) (k / 64)) c || eqb c (k % 64)) s s' → Owned m owners s₀ s' (k + 1)
owned_on m owners s₀ {s} {s'} k {n} en small o st = record {
  long = st.long ∙ o.long;
  rest = λ i j h. st.rest (i + stride * j) (λ e. low i j h e) ∙ o.rest i j h;
  bits = λ n' j c a h. same? n' n
      (λ e. same? j (k / 64)
      (λ f. rw (e, f) (st.here c ∙ rw (o.bits n (k / 64) c small h) (here c h)))
      (λ f. other n' j c a h (λ z. f (apart n' j n (k / 64) a small z).1) (λ z. f (omega arith))))
      (λ e. rw (st.rest (OWNED + n' + stride * j) (λ z. e (apart n' j n (k / 64) a small z).0), o.bits n' j c a h) (same? (64 * j + c) k
      (λ z. rw (z, ne_eqb (get_or owners k 0) n' (λ y. e (sym y ∙ sym en)), and-false (ltb k k), and-false (ltb k (k + 1))))
      (λ z. rw (next_sheet k j c h z))));
}
  where
    low : (i j : ℕ) → i < OWNED → i + stride * j ≡ OWNED + n + stride * (k / 64) → ⊥
    low i j h e = omega arith

    other : (n' j c : ℕ) → n' < 8 → c < 64 → (OWNED + n' + stride * j ≢ OWNED + n + stride * (k / 64)) → 64 * j + c ≢ k
        → bit (word s' (OWNED + n') j) c ≡ (ltb (64 * j + c) (k + 1) && eqb (get_or owners (64 * j + c) 0) n')
    other n' j c a h d z = rw (st.rest (OWNED + n' + stride * j) d, o.bits n' j c a h, next_sheet k j c h z)

    here : (c : ℕ) → c < 64 → ((ltb (64 * (k / 64) + c) k && eqb (get_or owners (64 * (k / 64) + c) 0) n) || eqb c (k % 64))
        ≡ (ltb (64 * (k / 64) + c) (k + 1) && eqb (get_or owners (64 * (k / 64) + c) 0) n)
    here c h = same? c (k % 64)
        (λ e. let z : 64 * (k / 64) + c ≡ k = omega arith in
        rw (z, eq-eqb c (k % 64) e, lt-ltb k (k + 1) (omega arith), eq-eqb (get_or owners k 0) n (sym en), le-ltb k k (omega arith)))
        (λ e. let z : 64 * (k / 64) + c ≢ k = λ y. e (omega arith) in
        rw (ne_eqb c (k % 64) e, next_sheet k (k / 64) c h z) (or-false _))

-- a sheet's place in its owner's set is one
pub owner_fits : (owners : List ℕ) {s₀ s : List ℕ} (k : ℕ) → ((i : ℕ) → get_or owners i 0 < 8) → k < length owners → Owned (length owners) owners s₀ s k
    → stride * blocks (length owners) + rows ≤ length s₀ + stride → (OWNED + get_or owners k 0 < rows) × (OWNED + get_or owners k 0 + stride * (k / 64) < length s)
owner_fits owners k small h o l = let a = small k in (omega arith, let b = in_block (length owners) k h in rw o.long (omega arith))

-- ---- All of it

module _ (nodes : ℕ) (owners : List ℕ) (x : Slices) (blank : Blank (length owners) x) (small : (k : ℕ) → get_or owners k 0 < 8) (s : List ℕ) (o : Owned (length owners) owners x.sets s (length owners)) where
  abbrev m : ℕ
  m = length owners

  abbrev b' : List ℕ
  b' = set x.bytes NODES nodes

  abbrev x' : Slices
  x' = slices b' s x.queues x.value x.seen x.sheets

  -- tables of zeros
  part_zero : (off size : ℕ) (l : List ℕ) → Zero l → (i : ℕ) → part off size l i ≡ 0
  part_zero off size l z i = below? i size (λ h. part_in off size l i h ∙ z (off + i)) (λ h. part_past off size l i h)

  bytes_zero : (off size : ℕ) → ((i : ℕ) → i < size → off + i ≢ NODES) → (i : ℕ) → part off size b' i ≡ 0
  bytes_zero off size d i = rw (part_apart off size x.bytes NODES nodes d) (part_zero off size x.bytes blank.bytes0 i)

  flat_zero : (l : List ℕ) → Zero l → (t k : ℕ) → flat m l t k ≡ 0
  flat_zero l z t k = below? k m (λ h. flat_in m l t k h ∙ z (t * m + k)) (λ h. flat_past m l t k h)

  -- no set of a save has a member
  none : (r t k : ℕ) → r ≤ HELD → in_set m r s t k ≡ false
  unfolding in_row
  none r t k h = below? t 32
      (λ l. set_in m r s t k l ∙ below? k m
      (λ a. member_in m s (r + t) k a ∙ ap (λ (z : ℕ). bit z (k % 64)) (o.rest (r + t) (k / 64) (omega arith)) ∙ bit_none (k % 64))
      (λ a. member_past m s (r + t) k a))
      (λ l. set_past m r s t k l)

  -- a sheet is in its owner's
  there : (n k : ℕ) → n < 8 → k < m → member m s (OWNED + n) k ≡ eqb (get_or owners k 0) n
  unfolding in_row
  there n k a h = member_in m s (OWNED + n) k h ∙ o.bits n (k / 64) (k % 64) a (omega arith)
      ∙ (let z : 64 * (k / 64) + k % 64 ≡ k = omega arith in rw (z, lt-ltb k m h))

  -- so that it is found
  found : (n k : ℕ) → n ≤ 8 → k < m → owner_in m s n k ≡ cond (ltb (get_or owners k 0) n) (get_or owners k 0) 0
  unfolding owner_in
  found zero k h l = rw (le-ltb (get_or owners k 0) 0 (omega arith))
  found (suc n) k h l = rw (there n k (omega arith) l) (same? (get_or owners k 0) n
      (λ e. rw (e, eq-eqb n n refl, lt-ltb n (suc n) (omega arith)))
      (λ e. rw (ne_eqb (get_or owners k 0) n e, found n k (omega arith) l) (below? (get_or owners k 0) n
      (λ b. rw (lt-ltb (get_or owners k 0) n b, lt-ltb (get_or owners k 0) (suc n) (omega arith)))
      (λ b. rw (le-ltb (get_or owners k 0) n b, le-ltb (get_or owners k 0) (suc n) (omega arith))))))

  unowned : (n k : ℕ) → m ≤ k → owner_in m s n k ≡ 0
  unfolding owner_in
  unowned zero k h = refl
  unowned (suc n) k h = rw (member_past m s (OWNED + n) k h) (unowned n k h)

  owner_is : (k : ℕ) → owner_in m s 8 k ≡ get_or owners k 0
  owner_is k = below? k m (λ h. found 8 k (omega arith) h ∙ rw (lt-ltb (get_or owners k 0) 8 (small k))) (λ h. unowned 8 k h ∙ sym (past owners k h))

  nodes_are : get_or b' NODES 0 ≡ nodes
  nodes_are = get_or-set_same x.bytes NODES nodes 0 (let a = blank.bytes in omega arith)

  no_places : placed x.queues ≡ 0
  no_places = blank.queues0 PLACED

  shows : shown m x' no_tally ≡ fresh (header_by nodes owners)
  unfolding fresh entries
  shows = same_state
      (λ i. record { nodes = nodes_are i; sheets = m; owner = fun_ext owner_is i })
      (fun_ext (λ k. rw (part_zero 0 m x.sheets blank.sheets0 k, part_zero m m x.sheets blank.sheets0 k)))
      (fun_ext (λ k. rw no_places))
      (fun_ext (λ t. rw (bytes_zero PHASE 32 (λ i h e. omega arith) t)))
      (fun_ext (λ t. fun_ext (λ k. rw (none COPIED t k (omega arith), none WRITTEN t k (omega arith)))))
      (fun_ext (λ t. fun_ext (λ k. rw (flat_zero x.value blank.value0 t k, flat_zero x.seen blank.seen0 t k))))
      (fun_ext (λ t. fun_ext (λ k. rw (none CLAIM t k (omega arith), none CLAIM_X t k (omega arith)))))
      (fun_ext (λ t. rw (bytes_zero FAILED 32 (λ i h e. omega arith) t)))
      (fun_ext (λ t. bytes_zero RUNS 32 (λ i h e. omega arith) t))
      (rw no_places)
      (fun_ext (λ t. part_zero 0 32 x.queues blank.queues0 t))
      (fun_ext (λ n. part_zero TAKEN 8 x.queues blank.queues0 n))
      refl

  no_entry : (k u : ℕ) → queued m x.queues k u ≡ false
  no_entry k u = below? k m (λ h. rw (queue_in m x.queues k h, blank.queues0 (QUEUE + 2 * k)) (bit_none u)) (λ h. rw (queue_past m x.queues k h) (bit_none u))

  no_x : (k u : ℕ) → queued_x m x.queues k u ≡ false
  no_x k u = below? k m (λ h. rw (queue_x_in m x.queues k h, blank.queues0 (QUEUE + 2 * k + 1)) (bit_none u)) (λ h. rw (queue_x_past m x.queues k h) (bit_none u))

  nobody : {a b : ℕ} → b ≡ 0 → a < b → ⊥
  nobody e h = omega arith

  ends : (i j c : ℕ) → i < rows → j < blocks m → c < 64 → m ≤ 64 * j + c → bit (word s i j) c ≡ false
  ends i j c a l d h = below? i OWNED
      (λ b. rw (o.rest i j b) (bit_none c))
      (λ b. by_node (i - OWNED) (omega arith) (omega arith))
    where
      by_node : (n : ℕ) → n < 8 → i ≡ OWNED + n → bit (word s i j) c ≡ false
      by_node n q e = rw (e, o.bits n j c q d, le-ltb (64 * j + c) m h)

  fits : Fit m x'
  fits = record {
    kept = record {
      sized = record {
        bytes = rw length-set blank.bytes;
        sets = rw o.long blank.sets;
        queues = blank.queues;
        fits = rw no_places (omega arith);
      };
      sets = record {
        written = λ t k e. clash (in_set m WRITTEN s t k) e (none WRITTEN t k (omega arith));
        claimed = λ t k e. clash (in_set m CLAIM_X s t k) e (none CLAIM_X t k (omega arith));
        owners = λ n k a h. there n k a h ∙ rw (owner_is k);
        ends = ends;
      };
      queues = record {
        held = λ u k a h. none HELD u k (omega arith) ∙ sym (no_entry k u);
        exclusive = λ u k a h. rw (no_x k u, no_entry k u);
        saves = λ u k h e. clash (queued m x.queues k u) e (no_entry k u);
        saves_x = λ u k h e. clash (queued_x m x.queues k u) e (no_x k u);
        listed = λ u k h e. clash (queued m x.queues k u) e (no_entry k u);
      };
      places = record {
        before = λ u v a b p r. absurd (nobody no_places p.0);
        among = λ u v a e. clash (bit (part BEFORE 32 x.queues u) v) e (rw (part_zero BEFORE 32 x.queues blank.queues0 u) (bit_none v));
        joined = λ u a p. absurd (nobody no_places p.0);
        last = λ u e. clash (bit (get_or x.queues JOINED 0) u) e (rw (blank.queues0 JOINED) (bit_none u));
      };
    };
    value = blank.value;
    seen = blank.seen;
    sheets = blank.sheets;
  }

  pub starts : Starts nodes owners x'
  starts = record { shows = shows; fit = fits }

-- slices of zeros are long enough where they are
pub blank_zeros : (m nb ns nq nv nn nw : ℕ) → ORDER + 2752 ≤ nb → stride * blocks m + rows ≤ ns + stride → QUEUE + 2 * m ≤ nq → 32 * m ≤ nv → 32 * m ≤ nn → 2 * m ≤ nw
    → Blank m (slices (replicate nb 0) (replicate ns 0) (replicate nq 0) (replicate nv 0) (replicate nn 0) (replicate nw 0))
blank_zeros m nb ns nq nv nn nw b s q v n w = record {
  bytes = rw length-replicate b;
  sets = rw length-replicate s;
  queues = rw length-replicate q;
  value = rw length-replicate v;
  seen = rw length-replicate n;
  sheets = rw length-replicate w;
  bytes0 = zeros nb;
  sets0 = zeros ns;
  queues0 = zeros nq;
  value0 = zeros nv;
  seen0 = zeros nn;
  sheets0 = zeros nw;
}
