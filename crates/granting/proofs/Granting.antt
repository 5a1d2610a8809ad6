-- DECIDE's two tests: taken by every node that owns a claimed sheet, and granted at each. The blocks tell both at once.
use Prim.Native.Nat.{ℕ, ◌+◌, ◌*◌, ◌/◌, ◌%◌, ◌≤◌, ◌<◌}
use mathlib.Core.Path.{◌≡◌, refl, sym, ap, ◌∙◌, subst}
use mathlib.Core.Bool.{Bool, true, false, not, ◌&&◌, ◌||◌, cond, and-true}
use mathlib.Core.List.{List, [], ◌∷◌}
use native.Mathlib.Omega.{arith}
use lib.ListN.{get_or}
use borrow.Author.Tests.{not-true}
use Rattle.rules.specs.Table.{all, any}
use Rattle.rules.specs.State.{State, claims}
use Rattle.rules.specs.Steps.{holds, empty, before, x_on, granted, has_taken}
use Rattle.rules.proofs.Table.{bool, below?, clash, and_i, and_l, and_r, all_at, all_intro, any_at, any_intro, any_none, any_fails, any_cong}
use Rattle.sets.specs.Bit.{bit, word, blocks}
use Rattle.state.specs.View.{part, in_set, queue_of, queue_x_of, queued, order_in, place_in, placed, bare, CLAIM, CLAIM_X, HELD, BEFORE, PHASE}
use Rattle.state.specs.Fit.{Ready, Last}
use Rattle.state.proofs.Codes.{claims_code}
use Rattle.state.proofs.Known.{small, last_known, x_entries}
use Rattle.state.proofs.Parts.{part_in, queue_in, queue_x_in, in_block}
use Rattle.state.proofs.Rows.{set_bit}
use Rattle.state.proofs.Waiting.{mem_entries, holds_before}
use Rattle.granting.specs.Granting.{same, way, in_ways, block_granted}
use Rattle.granting.proofs.Blocks.{same_true, same_refl}

-- nothing else but what is taken
only : (c h : Bool) → (not c || h) ≡ same (c && h) c
only true true = refl
only true false = refl
only false h = refl

-- an empty list has nobody
empty_holds : (l : List ℕ) → empty l ≡ not (holds (λ u. true) l)
empty_holds [] = refl
empty_holds (u ∷ l) = refl

module _ {m : ℕ} {b s q : List ℕ} (ready : Ready m b s q) (t : ℕ) (t32 : t < 32) (two : part PHASE 32 b t ≡ 2) where
  abbrev now : State
  now = bare m b s q

  last : Last b q t
  last = last_known ready t (ready.known.stands t t32 (rw two))

  -- the saves before t
  abbrev ahead : ℕ
  ahead = part BEFORE 32 q t

  -- nobody is in the way at sheet k
  abbrev free : ℕ → Bool
  free k = not (in_set m CLAIM s t k && any 64 (λ u. bit (cond (in_set m CLAIM_X s t k) (queue_of m q k) (queue_x_of m q k)) u && bit ahead u))

  -- ---- One sheet

  module _ (k : ℕ) (km : k < m) where
    claimed : claims (now.claim t k) ≡ in_set m CLAIM s t k
    claimed = claims_code (in_set m CLAIM s t k) (in_set m CLAIM_X s t k) (ready.kept.sets.claimed t k)

    held : in_set m HELD s t k ≡ (in_set m CLAIM s t k && has_taken now (now.header.owner k) t)
    held = ready.kept.queues.held t k t32 km ∙ sym (mem_entries (order_in b) (place_in q) (queued m q k) (placed q) (λ _. last)) ∙ ready.known.waits t k (rw two) ∙ rw claimed

    pub taken_code : (not (claims (now.claim t k)) || has_taken now (now.header.owner k) t) ≡ same (in_set m HELD s t k) (in_set m CLAIM s t k)
    taken_code = rw (claimed, held) (only (in_set m CLAIM s t k) (has_taken now (now.header.owner k) t))

    -- who is placed before t and passes the test
    queue_before : (x : ℕ → Bool) → queued m q k t ≡ true
        → holds x (before t (now.queue k)) ≡ any 64 (λ u. (queued m q k u && x u) && bit ahead u)
    queue_before x e = holds_before (order_in b) (place_in q) (placed q) (small ready) (queued m q k) (λ u y. ready.kept.queues.listed u k km y) x t last e
        ∙ any_cong 64 _ _ (λ u _. bool (queued m q k u)
        (λ y. rw (y, ready.kept.places.before t u t32 (ready.kept.queues.saves u k km y) last (ready.kept.queues.listed u k km y)))
        (λ n. rw n))

    granted_code : in_set m HELD s t k ≡ in_set m CLAIM s t k → granted now t k ≡ free k
    granted_code e = bool (in_set m CLAIM s t k)
        (λ y. let there : queued m q k t ≡ true = sym (ready.kept.queues.held t k t32 km) ∙ e ∙ y in bool (in_set m CLAIM_X s t k)
        (λ x. rw (y, x, empty_holds (before t (now.queue k)), queue_before (λ u. true) there) (ap not (any_cong 64 _ _ (λ u _. rw (and-true (queued m q k u))))))
        (λ x. rw (y, x, queue_before (x_on now.claim k) there) (ap not (any_cong 64 _ _ (λ u _. rw (x_entries ready.kept km u))))))
        (λ n. bool (in_set m CLAIM_X s t k) (λ x. clash (in_set m CLAIM s t k) (ready.kept.sets.claimed t k x) n) (λ x. rw (n, x)))

  -- ---- A sheet of a block

  module _ (j i : ℕ) (i64 : i < 64) (km : 64 * j + i < m) where
    abbrev sheet : ℕ
    sheet = 64 * j + i

    way_at : way s q t j i ≡ cond (in_set m CLAIM_X s t sheet) (queue_of m q sheet) (queue_x_of m q sheet)
    way_at = rw (set_bit m s CLAIM_X t32 j i64 km, queue_in m q sheet km, queue_x_in m q sheet km)

    module _ (e : block_granted s q t j ≡ true) where
      block_taken : same (in_set m HELD s t sheet) (in_set m CLAIM s t sheet) ≡ true
      unfolding block_granted
      block_taken = rw (← set_bit m s HELD t32 j i64 km, ← set_bit m s CLAIM t32 j i64 km) (all_at 64 _ (and_l _ _ e) i i64)

      nobody : (u : ℕ) → u < 64 → in_ways s q t j u ≡ true → bit ahead u ≡ false
      unfolding block_granted
      nobody u l z = rw (part_in BEFORE 32 q t t32) (rw z at (any_none 64 in_the_way (not-true (any 64 in_the_way) (and_r (all 64 with_entry) (not (any 64 in_the_way)) e)) u l))
        where
          with_entry : ℕ → Bool
          with_entry i = same (bit (word s (HELD + t) j) i) (bit (word s (CLAIM + t) j) i)

          in_the_way : ℕ → Bool
          in_the_way u = in_ways s q t j u && bit (get_or q (BEFORE + t) 0) u

      block_free : free sheet ≡ true
      unfolding in_ways
      block_free = rw (← way_at, ← set_bit m s CLAIM t32 j i64 km) (bool (bit (word s (CLAIM + t) j) i)
          (λ y. rw (
            y,
            any_fails 64 (λ u. bit (way s q t j i) u && bit ahead u) (λ u l. bool (bit (way s q t j i) u)
                (λ w. rw w (nobody u l (any_intro 64 (λ i. bit (word s (CLAIM + t) j) i && bit (way s q t j i) u) i i64 (rw (y, w)))))
                (λ w. rw w)),
          ))
          (λ n. rw n))

  -- ---- All sheets

  abbrev pub taken_all : Bool
  taken_all = all m (λ k. not (claims (now.claim t k)) || has_taken now (now.header.owner k) t)

  abbrev pub granted_all : Bool
  granted_all = all m (λ k. granted now t k)

  -- both, by the blocks
  module _ (e : all (blocks m) (block_granted s q t) ≡ true) where
    block_of_sheet : (P : ℕ → Type 0) → ((j i : ℕ) → i < 64 → 64 * j + i < m → block_granted s q t j ≡ true → P (64 * j + i)) → (k : ℕ) → k < m → P k
    block_of_sheet P f k km =
        let z : 64 * (k / 64) + k % 64 ≡ k = omega arith in
        subst P z (f (k / 64) (k % 64) (omega arith) (omega arith) (all_at (blocks m) (block_granted s q t) e (k / 64) (in_block m k km)))

    sheets_taken : (k : ℕ) → k < m → same (in_set m HELD s t k) (in_set m CLAIM s t k) ≡ true
    sheets_taken = block_of_sheet (λ k. same (in_set m HELD s t k) (in_set m CLAIM s t k) ≡ true) block_taken

    sheets_free : (k : ℕ) → k < m → free k ≡ true
    sheets_free = block_of_sheet (λ k. free k ≡ true) block_free

    are_taken : taken_all ≡ true
    are_taken = all_intro m _ (λ k km. taken_code k km ∙ sheets_taken k km)

    are_granted : granted_all ≡ true
    are_granted = all_intro m _ (λ k km. granted_code k km (same_true _ _ (sheets_taken k km)) ∙ sheets_free k km)

  -- and the blocks, by both
  module _ (tk : taken_all ≡ true) (gr : granted_all ≡ true) where
    sheet_held : (k : ℕ) → k < m → in_set m HELD s t k ≡ in_set m CLAIM s t k
    sheet_held k km = same_true _ _ (sym (taken_code k km) ∙ all_at m _ tk k km)

    sheet_free : (k : ℕ) → k < m → free k ≡ true
    sheet_free k km = sym (granted_code k km (sheet_held k km)) ∙ all_at m _ gr k km

    module _ (j : ℕ) (h : j < blocks m) where
      -- past the sheets there is nothing
      past : (r i : ℕ) → r ≤ HELD → i < 64 → m ≤ 64 * j + i → bit (word s (r + t) j) i ≡ false
      past r i l i64 out = ready.kept.sets.ends (r + t) j i (omega arith) h i64 out

      digit_held : (i : ℕ) → i < 64 → same (bit (word s (HELD + t) j) i) (bit (word s (CLAIM + t) j) i) ≡ true
      digit_held i i64 = below? (64 * j + i) m
          (λ km. rw (set_bit m s HELD t32 j i64 km, set_bit m s CLAIM t32 j i64 km, sheet_held (64 * j + i) km) (same_refl (in_set m CLAIM s t (64 * j + i))))
          (λ out. rw (past HELD i (omega arith) i64 out, past CLAIM i (omega arith) i64 out))

      digit_free : (u i : ℕ) → u < 64 → i < 64 → bit (word s (CLAIM + t) j) i ≡ true → bit (way s q t j i) u ≡ true → bit (get_or q (BEFORE + t) 0) u ≡ false
      digit_free u i u64 i64 y w = below? (64 * j + i) m
          (λ km. let c : in_set m CLAIM s t (64 * j + i) ≡ true = sym (set_bit m s CLAIM t32 j i64 km) ∙ y in
          let f : any 64 (λ u. bit (way s q t j i) u && bit ahead u) ≡ false = not-true _ (rw (c, ← way_at j i i64 km) at (sheet_free (64 * j + i) km)) in
          rw (w, part_in BEFORE 32 q t t32) at (any_none 64 (λ u. bit (way s q t j i) u && bit ahead u) f u u64))
          (λ out. clash (bit (word s (CLAIM + t) j) i) y (past CLAIM i (omega arith) i64 out))

      is_granted : block_granted s q t j ≡ true
      unfolding block_granted in_ways
      is_granted = and_i _ _ (all_intro 64 _ digit_held) (ap not (any_fails 64 (λ u. in_ways s q t j u && bit (get_or q (BEFORE + t) 0) u)
          (λ u u64. bool (in_ways s q t j u)
          (λ y. any_at 64 _ y (λ i i64 w. rw y (digit_free u i u64 i64 (and_l (bit (word s (CLAIM + t) j) i) (bit (way s q t j i) u) w) (and_r (bit (word s (CLAIM + t) j) i) (bit (way s q t j i) u) w))))
          (λ n. rw n))))

  pub tests_code : all (blocks m) (block_granted s q t) ≡ (taken_all && granted_all)
  tests_code = bool (all (blocks m) (block_granted s q t))
      (λ e. e ∙ sym (and_i taken_all granted_all (are_taken e) (are_granted e)))
      (λ n. n ∙ sym (bool taken_all
      (λ tk. rw tk (bool granted_all
      (λ gr. clash (all (blocks m) (block_granted s q t)) (all_intro (blocks m) (block_granted s q t) (is_granted tk gr)) n)
      (λ gr. gr)))
      (λ tk. rw tk)))
