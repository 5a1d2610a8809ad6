-- What is kept where a command changes a part alone: what nodes have taken, a save's copies, a save's entries.
use Prim.Native.Nat.{ℕ, ◌+◌, ◌≤◌, ◌<◌}
use mathlib.Core.Path.{◌≡◌, sym, ap, ◌∙◌, fun_ext}
use mathlib.Core.Bool.{Bool, true, ◌&&◌}
use mathlib.Core.Logic.{◌≢◌}
use mathlib.Core.List.{List}
use native.Mathlib.Omega.{arith}
use lib.ListN.{length, get_or}
use lib.Dec.{eqb, ltb}
use Rattle.rules.proofs.Table.{same?}
use Rattle.sets.specs.Bit.{bit, word, blocks}
use Rattle.state.specs.View.{part, member, in_set, owner_in, header_of, claim_of, claim_in, placed, place_in, queued, queued_x, rows, COPIED, WRITTEN, CLAIM, CLAIM_X, HELD, OWNED, NODES, PLACE, TAKEN, PLACED, BEFORE, JOINED, QUEUE}
use Rattle.state.specs.Fit.{Ends, Last, Places, Kept}
use Rattle.state.proofs.Parts.{part_same, member_same, set_same, owner_same}
use Rattle.state.proofs.Rows.{set_by, sets_by, owners_by}

-- ---- What nodes have taken

-- the numbers of places and the sets of those before are as they were
pub record Ahead (q q' : List ℕ) : Type 0 where
  pub same : (i : ℕ) → i < QUEUE → ((n : ℕ) → n < 8 → i ≢ TAKEN + n) → get_or q' i 0 ≡ get_or q i 0

module _ {q q' : List ℕ} (a : Ahead q q') where
  pub placed_same : placed q' ≡ placed q
  placed_same = a.same PLACED (omega arith) (λ n h e. omega arith)

  pub place_same : place_in q' ≡ place_in q
  place_same = part_same PLACE 32 q q' (λ i h. a.same (PLACE + i) (omega arith) (λ n l e. omega arith))

  pub before_same : part BEFORE 32 q' ≡ part BEFORE 32 q
  before_same = part_same BEFORE 32 q q' (λ i h. a.same (BEFORE + i) (omega arith) (λ n l e. omega arith))

  joined_same : get_or q' JOINED 0 ≡ get_or q JOINED 0
  joined_same = a.same JOINED (omega arith) (λ n h e. omega arith)

  module _ (b : List ℕ) where
    pub last_on : (u : ℕ) → Last b q u → Last b q' u
    last_on u p = rw (place_same, placed_same) p

    last_back : (u : ℕ) → Last b q' u → Last b q u
    last_back u p = rw (place_same, placed_same) at p

    pub places_same : Places b q → Places b q'
    places_same z = record {
      before = λ u v h c p r. ap (λ (f : ℕ → ℕ). bit (f u) v) before_same ∙ z.before u v h c (last_back u p) (last_back v r) ∙ ap (λ (f : ℕ → ℕ). ltb (f v) (f u)) (sym place_same);
      among = λ u v h e. rw joined_same (z.among u v h (sym (ap (λ (f : ℕ → ℕ). bit (f u) v) before_same) ∙ e));
      joined = λ u h p. rw joined_same (z.joined u h (last_back u p));
      last = λ u e. let y = z.last u (rw joined_same at e) in (y.0, last_on u y.1);
    }

-- ---- A save's copies

-- the rows of claims, entries and owners are as they were
pub record Beside (m : ℕ) (s s' : List ℕ) : Type 0 where
  pub same : (r k : ℕ) → CLAIM ≤ r → r < rows → member m s' r k ≡ member m s r k

module _ {m : ℕ} {s s' : List ℕ} (e : Beside m s s') where
  set_beside : (g : ℕ) → CLAIM ≤ g → g + 32 ≤ rows → in_set m g s' ≡ in_set m g s
  set_beside g a b = set_same m g s s' (λ u k h. e.same (g + u) k (omega arith) (omega arith))

  owner_beside : owner_in m s' 8 ≡ owner_in m s 8
  owner_beside = fun_ext (λ k. owner_same m s s' 8 k (λ n h. e.same (OWNED + n) k (omega arith) (omega arith)))

  pub header_beside : (b b' : List ℕ) → get_or b' NODES 0 ≡ get_or b NODES 0 → header_of m b' s' ≡ header_of m b s
  header_beside b b' n = λ i. record { nodes = n i; sheets = m; owner = owner_beside i }

  pub claim_beside : claim_in m s' ≡ claim_in m s
  claim_beside = λ i t k. claim_of (set_beside CLAIM (omega arith) (omega arith) i t k) (set_beside CLAIM_X (omega arith) (omega arith) i t k)

  at_set : (g t k : ℕ) → CLAIM ≤ g → g + 32 ≤ rows → in_set m g s' t k ≡ in_set m g s t k
  at_set g t k a b = ap (λ (f : ℕ → ℕ → Bool). f t k) (set_beside g a b)

  pub kept_beside : {b q : List ℕ} → length s' ≡ length s → ((t k : ℕ) → in_set m WRITTEN s' t k ≡ true → in_set m COPIED s' t k ≡ true) → Ends m s' → Kept m b s q → Kept m b s' q
  kept_beside len w ends f = record {
    sized = record { bytes = f.sized.bytes; sets = rw len f.sized.sets; queues = f.sized.queues; fits = f.sized.fits };
    sets = record {
      written = w;
      claimed = λ t k z. at_set CLAIM t k (omega arith) (omega arith) ∙ f.sets.claimed t k (sym (at_set CLAIM_X t k (omega arith) (omega arith)) ∙ z);
      owners = λ n k a l. e.same (OWNED + n) k (omega arith) (omega arith) ∙ f.sets.owners n k a l ∙ ap (λ (o : ℕ → ℕ). eqb (o k) n) (sym owner_beside);
      ends = ends;
    };
    queues = record {
      held = λ u k a l. at_set HELD u k (omega arith) (omega arith) ∙ f.queues.held u k a l;
      exclusive = λ u k a l. f.queues.exclusive u k a l ∙ rw (at_set CLAIM_X u k (omega arith) (omega arith));
      saves = f.queues.saves;
      saves_x = f.queues.saves_x;
      listed = f.queues.listed;
    };
    places = f.places;
  }

-- ---- A save's entries

-- save t's alone may have changed, in the queues and in its own set
pub record Entries (m t : ℕ) (s q s' q' : List ℕ) : Type 0 where
  pub long_s : length s' ≡ length s
  pub long_q : length q' ≡ length q
  pub ahead : (i : ℕ) → i < QUEUE → get_or q' i 0 ≡ get_or q i 0
  pub rest : (i j : ℕ) → i < rows → j < blocks m → i ≢ HELD + t → word s' i j ≡ word s i j
  pub others : (k u : ℕ) → k < m → u ≢ t → queued m q' k u ≡ queued m q k u
  pub others_x : (k u : ℕ) → k < m → u ≢ t → queued_x m q' k u ≡ queued_x m q k u

module _ {m t : ℕ} {s q s' q' : List ℕ} (g : Entries m t s q s' q') where
  pub entries_ahead : Ahead q q'
  entries_ahead = record { same = λ i h _. g.ahead i h }

  pub entries_taken : part TAKEN 8 q' ≡ part TAKEN 8 q
  entries_taken = part_same TAKEN 8 q q' (λ i h. g.ahead (TAKEN + i) (omega arith))

  pub entries_sets : (r : ℕ) → r + 32 ≤ HELD → in_set m r s' ≡ in_set m r s
  entries_sets r h = sets_by m s s' r (λ u j l b. g.rest (r + u) j (omega arith) b (λ e. omega arith))

  set_at : (r u k : ℕ) → r + 32 ≤ HELD → in_set m r s' u k ≡ in_set m r s u k
  set_at r u k h = ap (λ (f : ℕ → ℕ → Bool). f u k) (entries_sets r h)

  module _ (t32 : t < 32) where
    owned : (n j : ℕ) → n < 8 → j < blocks m → word s' (OWNED + n) j ≡ word s (OWNED + n) j
    owned n j h b = g.rest (OWNED + n) j (omega arith) b (λ e. omega arith)

    pub entries_owner : owner_in m s' 8 ≡ owner_in m s 8
    entries_owner = owners_by m s s' owned

    held_other : (u k : ℕ) → u ≢ t → in_set m HELD s' u k ≡ in_set m HELD s u k
    held_other u k d = set_by m s s' HELD u k (λ h j b. g.rest (HELD + u) j (omega arith) b (λ e. d (omega arith)))

    -- its own: the set says what the queues say, an X is an entry with a claim of X, and who has one has a place
    module _ (own : (k : ℕ) → k < m → in_set m HELD s' t k ≡ queued m q' k t)
        (own_x : (k : ℕ) → k < m → queued_x m q' k t ≡ (queued m q' k t && in_set m CLAIM_X s t k)) (ends : Ends m s') where
      pub kept_entries : {b : List ℕ} → Kept m b s q → ((k : ℕ) → k < m → queued m q' k t ≡ true → Last b q t) → Kept m b s' q'
      kept_entries {b} f last = let a = entries_ahead in record {
        sized = record { bytes = f.sized.bytes; sets = rw g.long_s f.sized.sets; queues = rw g.long_q f.sized.queues; fits = rw (placed_same a) f.sized.fits };
        sets = record {
          written = λ u k e. set_at COPIED u k (omega arith) ∙ f.sets.written u k (sym (set_at WRITTEN u k (omega arith)) ∙ e);
          claimed = λ u k e. set_at CLAIM u k (omega arith) ∙ f.sets.claimed u k (sym (set_at CLAIM_X u k (omega arith)) ∙ e);
          owners = λ n k h l. member_same m s s' (OWNED + n) k (λ j. owned n j h) ∙ f.sets.owners n k h l ∙ ap (λ (o : ℕ → ℕ). eqb (o k) n) (sym entries_owner);
          ends = ends;
        };
        queues = record {
          held = λ u k h l. same? u t
              (λ e. rw e (own k l))
              (λ d. held_other u k d ∙ f.queues.held u k h l ∙ sym (g.others k u l d));
          exclusive = λ u k h l. same? u t
              (λ e. rw e (own_x k l ∙ rw (set_at CLAIM_X t k (omega arith))))
              (λ d. g.others_x k u l d ∙ f.queues.exclusive u k h l ∙ rw (g.others k u l d, set_at CLAIM_X u k (omega arith)));
          saves = λ u k l e. same? u t (λ z. rw z t32) (λ d. f.queues.saves u k l (sym (g.others k u l d) ∙ e));
          saves_x = λ u k l e. same? u t (λ z. rw z t32) (λ d. f.queues.saves_x u k l (sym (g.others_x k u l d) ∙ e));
          listed = λ u k l e. last_on a b u (same? u t (λ z. rw z (last k l (rw z at e))) (λ d. f.queues.listed u k l (sym (g.others k u l d) ∙ e)));
        };
        places = places_same a b f.places;
      }
