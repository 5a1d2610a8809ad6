-- APPLY's tests, and what its two loops leave: its rule's effect.
use Prim.Native.Nat.{ℕ, ◌+◌, ◌≤◌, ◌<◌}
use mathlib.Core.Path.{◌≡◌, refl, ap, ◌∙◌, fun_ext}
use mathlib.Core.Bool.{Bool, true, false, not, ◌&&◌, cond, and_comm, and-true, and-false}
use mathlib.Core.Logic.{◌≢◌}
use mathlib.Core.List.{List, []}
use native.Mathlib.Omega.{arith}
use lib.ListN.{get_or}
use lib.Dec.{eqb}
use borrow.Author.Tests.{eq-eqb, ne_eqb, lt-ltb, le-leb, lt-leb}
use Rattle.rules.specs.Bytes.{Header, Apply}
use Rattle.rules.specs.Counter.{AddsMarks}
use Rattle.rules.specs.Table.{any}
use Rattle.rules.specs.State.{Sheet, State, is_committed}
use Rattle.rules.specs.Steps.{mem, without, receives, apply_save}
use Rattle.rules.proofs.Table.{bool, same?, below?, any_cong}
use Rattle.rules.proofs.Places.{entries, entries_cong, entries_without}
use Rattle.rules.proofs.Counter.{adds_marks}
use Rattle.sets.specs.Bit.{in_row}
use Rattle.sets.proofs.Bits.{bit_none}
use Rattle.state.specs.Slices.{Slices, slices}
use Rattle.state.specs.View.{out_of_phase, part, in_set, owner_in, placed, place_in, order_in, queued, shown, no_tally, COPIED, WRITTEN, CLAIM, CLAIM_X, HELD, OWNED, PHASE, NODES}
use Rattle.state.specs.Fit.{Ready}
use Rattle.state.specs.Lent.{applying}
use Rattle.state.proofs.Lending.{Moves, Keeps}
use Rattle.std.specs.Prelude.{Ok, Err}
use Rattle.refusals.specs.Numbers.{number_of}
use Rattle.refusals.specs.declared.Refusal.{Refusal}
use Rattle.refusals.specs.declared.Refusal.TheVariants.{NoEntry}
use Rattle.state.specs.declared.Answer.TheVariants.{Accepted}
use Rattle.state.proofs.Codes.{committed_code, written_code}
use Rattle.state.proofs.Keeping.{Ahead, placed_same, place_same, entries_ahead, entries_taken, entries_sets, entries_owner}
use Rattle.state.proofs.Known.{owner_row, held_row}
use Rattle.state.proofs.OutOfPhase.{over_tests}
use Rattle.state.proofs.Parts.{part_in, part_past, flat_in, queue_past}
use Rattle.state.proofs.Rows.{set_row, set_none, common}
use Rattle.state.proofs.Steps.{refused, accepted, same_state}
use Rattle.state.proofs.Waiting.{mem_entries}
use Rattle.leaving.specs.Left.{Left}
use Rattle.leaving.proofs.Stands.{left, row_left, kept_left}
use Rattle.storing.specs.Carry.{sheet_in, Received}
use Rattle.storing.proofs.Carry.{received_none, received_same}

-- what an accepted APPLY ensures
abbrev Done : (m n t : ℕ) (b s q value w s' q' w' : List ℕ) → Type 0
Done m n t b s q value w s' q' w' =
    Moves m (applying b s q value w) (Apply n t) (applying b s' q' value w') (Ok Accepted)
    × (Keeps m (applying b s q value w) (applying b s' q' value w') × ((x : Slices) → AddsMarks (shown m (applying b s q value w x) no_tally) n t (part m m w')))

-- ---- The rules' tests by their numbers and sets

module _ {m : ℕ} {b s q : List ℕ} (ready : Ready m b s q) (n : ℕ) {t i : ℕ} (ln : n < get_or b NODES 0) (row : (i ≡ t) × (t < 32)) where
  t32 : t < 32
  t32 = row.1

  pub node8 : n < 8
  node8 = let z : get_or b NODES 0 ≤ 8 = ready.known.nodes8 in omega arith

  abbrev queue : ℕ → List ℕ
  queue k = entries (order_in b) (place_in q) (queued m q k) (placed q)

  has_code : any m (λ k. eqb (owner_in m s 8 k) n && mem t (queue k)) ≡ any m (common s (HELD + t) (OWNED + n))
  has_code = any_cong m (λ k. eqb (owner_in m s 8 k) n && mem t (queue k)) (common s (HELD + t) (OWNED + n))
      (λ k h. rw (owner_row ready.kept h n node8, mem_entries (order_in b) (place_in q) (queued m q k) (placed q) (ready.kept.queues.listed t k h), held_row ready.kept h t32)
      (and_comm (in_row s (OWNED + n) k) (in_row s (HELD + t) k)))

  module _ (value w : List ℕ) where
    abbrev p : ℕ
    p = get_or b (PHASE + i) 0

    phase_code : part PHASE 32 b t ≡ p
    phase_code = rw row.0 (part_in PHASE 32 b t t32)

    pub apply_out : p < 4 → {r : Refusal} → number_of r ≡ out_of_phase p → Moves m (applying b s q value w) (Apply n t) (applying b s q value w) (Err r)
    apply_out l out x = refused (λ tally. rw (lt-ltb n (get_or b NODES 0) ln, lt-ltb t 32 t32, phase_code, over_tests _ p, lt-leb 4 p l, out))

    module _ (over : 4 ≤ p) {h : Bool} (found : h ≡ any m (common s (HELD + i) (OWNED + n))) where
      eh : h ≡ any m (common s (HELD + t) (OWNED + n))
      eh = rw row.0 at found

      pub apply_11 : h ≡ false → Moves m (applying b s q value w) (Apply n t) (applying b s q value w) (Err NoEntry)
      apply_11 e x = refused (λ tally. rw (lt-ltb n (get_or b NODES 0) ln, lt-ltb t 32 t32, phase_code, over_tests _ p, le-leb 4 p over, has_code, ← eh, e))

      -- ---- What is left

      module _ (has : h ≡ true) {s' q' w' : List ℕ} (g : Left m t (common s (HELD + t) (OWNED + n)) s q s' q')
          (got : Received m t value (λ k. eqb p 4 && common s' (OWNED + n) (WRITTEN + t) k) w w') where
        ahead : Ahead q q'
        ahead = entries_ahead (left g)

        -- t goes from the queues of the node's sheets
        queue_code : (k u : ℕ) → queued m q' k u ≡ cond (eqb (owner_in m s 8 k) n) (queued m q k u && not (eqb u t)) (queued m q k u)
        queue_code k u = below? k m
            (λ l. rw (g.queue k u l, owner_row ready.kept l n node8) (bool (in_row s (OWNED + n) k)
            (λ e. rw (e, and-true (in_row s (HELD + t) k), ← held_row ready.kept l t32) (same? u t
            (λ z. rw (z, eq-eqb t t refl) (own (queued m q k t)))
            (λ z. rw (ne_eqb u t z, and-false (queued m q k t)))))
            (λ e. rw (e, and-false (in_row s (HELD + t) k)) (and-true (queued m q k u)))))
            (λ l. rw (queue_past m q' k l, queue_past m q k l, bit_none u) (past (eqb (owner_in m s 8 k) n)))
          where
            own : (a : Bool) → (a && not (a && true)) ≡ (a && false)
            own true = refl
            own false = refl

            past : (o : Bool) → false ≡ cond o false false
            past true = refl
            past false = refl

        queue_left : (k : ℕ) → entries (order_in b) (place_in q') (queued m q' k) (placed q') ≡ cond (eqb (owner_in m s 8 k) n) (without t (queue k)) (queue k)
        queue_left k = rw (place_same ahead, placed_same ahead) (bool (eqb (owner_in m s 8 k) n)
            (λ e. rw (e, entries_without (order_in b) (place_in q) (queued m q k) t (placed q))
            (entries_cong (order_in b) (place_in q) (queued m q' k) (λ u. queued m q k u && not (eqb u t)) (placed q) (λ u. queue_code k u ∙ rw e)))
            (λ e. rw e (entries_cong (order_in b) (place_in q) (queued m q' k) (queued m q k) (placed q) (λ u. queue_code k u ∙ rw e))))

        -- what t wrote there is received, if it is committed
        abbrev before : State
        before = shown m (applying b s q value w (slices [] [] [] [] [] [])) no_tally

        gets : (k : ℕ) → k < m → (eqb p 4 && common s' (OWNED + n) (WRITTEN + t) k) ≡ receives before n t k
        gets k l = rw (
          row_left g (OWNED + n) k (let z = node8 in omega arith) (λ e. omega arith),
          row_left g (WRITTEN + t) k (omega arith) (λ e. omega arith),
          phase_code,
          committed_code p,
          written_code (in_set m COPIED s t k) (in_set m WRITTEN s t k),
          owner_row ready.kept l n node8,
          set_row m s WRITTEN t32 k l,
        ) (front (eqb p 4) (in_row s (OWNED + n) k) (in_row s (WRITTEN + t) k))
          where
            front : (a b c : Bool) → (a && (b && c)) ≡ (b && (a && c))
            front true b c = refl
            front false true c = refl
            front false false c = refl

        gets_past : (k : ℕ) → m ≤ k → receives before n t k ≡ false
        gets_past k l = rw (
          written_code (in_set m COPIED s t k) (in_set m WRITTEN s t k),
          set_none m s WRITTEN t32 k l,
          and-false (is_committed (before.phase t)),
        ) (and-false (eqb (owner_in m s 8 k) n))

        sheet_code : sheet_in m w' ≡ (apply_save before n t).sheet
        sheet_code = fun_ext (λ k. below? k m
            (λ l. rw (← gets k l, flat_in m value t k l) (got.sheet k l))
            (λ l. rw (gets_past k l, part_past 0 m w' k l, part_past m m w' k l, part_past 0 m w k l, part_past m m w k l)))

        apply_steps : Moves m (applying b s q value w) (Apply n t) (applying b s' q' value w') (Ok Accepted)
        apply_steps x = accepted
            (λ tally. rw (lt-ltb n (get_or b NODES 0) ln, lt-ltb t 32 t32, phase_code, over_tests _ p, le-leb 4 p over, has_code, ← eh, has))
            (λ tally. same_state
            (ap {B = Header} (λ (o : ℕ → ℕ). record { nodes = get_or b NODES 0; sheets = m; owner = o }) (entries_owner (left g) t32))
            sheet_code
            (fun_ext queue_left)
            refl
            (fun_ext (λ u. fun_ext (λ k. rw (entries_sets (left g) COPIED (omega arith), entries_sets (left g) WRITTEN (omega arith)))))
            refl
            (fun_ext (λ u. fun_ext (λ k. rw (entries_sets (left g) CLAIM (omega arith), entries_sets (left g) CLAIM_X (omega arith)))))
            refl
            refl
            (rw (placed_same ahead))
            (place_same ahead)
            (entries_taken (left g))
            refl)
            (λ tally. refl)

        apply_keeps : Keeps m (applying b s q value w) (applying b s' q' value w')
        apply_keeps x f = record { kept = kept_left g t32 f.kept; value = f.value; seen = f.seen; sheets = rw got.long f.sheets }

        apply_counts : (x : Slices) → AddsMarks (shown m (applying b s q value w x) no_tally) n t (part m m w')
        apply_counts x = let all = adds_marks (shown m (applying b s q value w x) no_tally) n t in record {
          sum = ap {B = ℕ → ℕ} (λ (f : ℕ → Sheet) (k : ℕ). (f k).wct) sheet_code ∙ all.sum;
          exact = all.exact;
        }

        all_done : Done m n t b s q value w s' q' w'
        all_done = (apply_steps, (apply_keeps, apply_counts))

      module _ (has : h ≡ true) {s' q' : List ℕ} (gone : Left m i (common s (HELD + i) (OWNED + n)) s q s' q') where
        g : Left m t (common s (HELD + t) (OWNED + n)) s q s' q'
        g = rw row.0 at gone

        pub done_committed : p ≡ 4 → {w' : List ℕ} → Received m i value (common s' (OWNED + n) (WRITTEN + i)) w w' → Done m n t b s q value w s' q' w'
        done_committed e got = let r = rw row.0 at got in all_done has g (received_same r (λ k l. rw (eq-eqb p 4 e)))

        pub done_dropped : p ≢ 4 → Done m n t b s q value w s' q' w
        done_dropped d = all_done has g (received_none w (λ k l. rw (ne_eqb p 4 d)))
