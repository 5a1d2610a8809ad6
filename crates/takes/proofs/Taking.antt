-- TAKE at a last place: what the loops leave is its rule's effect, and what they find its rule's verdict.
use Prim.Native.Nat.{ℕ, suc, ◌+◌, ◌*◌, ◌≤◌, ◌<◌}
use mathlib.Core.Path.{◌≡◌, refl, sym, ap, ◌∙◌, fun_ext}
use mathlib.Core.Bool.{Bool, true, false, ◌&&◌, ◌||◌, cond, or-false, or-true, and_comm, and-false}
use mathlib.Core.List.{List, [], ◌∷◌, ◌++◌}
use mathlib.Core.Option.{some}
use native.Mathlib.Omega.{arith}
use native.Mathlib.Numerals.{add-one}
use lib.ListN.{get_or, set}
use lib.Seq.{get_or-set_other, get_or-take}
use lib.Dec.{eqb, ltb}
use borrow.Author.Tests.{eq-eqb, ne_eqb, eqb-true, lt-ltb, le-ltb}
use Rattle.rules.specs.Table.{any, upd}
use Rattle.rules.specs.State.{State, claims, at}
use Rattle.rules.specs.Bytes.{Take}
use Rattle.rules.specs.Steps as rules
use Rattle.rules.specs.Steps.{holds, at_front, x_on, owns, behind, fails_at, finds_invalid, rule_met, cause_at, first_cause, verdict, next_is_last}
use Rattle.rules.proofs.Table.{bool, same?, below?, clash, and_l, and_r, any_cong, first_none, first_at}
use Rattle.rules.proofs.Places.{entries, entries_in, entries_cong}
use Rattle.rules.proofs.Causes.{passing, failing, found_valid, found_invalid}
use Rattle.sets.specs.Bit.{bit, in_row}
use Rattle.state.specs.Slices.{Slices}
use Rattle.state.specs.View.{part, in_set, owner_in, placed, place_in, order_in, queue_of, queue_x_of, queued, queued_x, mark_of, claim_of, claim_in, shown, no_tally, verdict_of, rule_of, COPIED, WRITTEN, CLAIM, CLAIM_X, OWNED, FAILED, RUNS, NODES, TAKEN, BEFORE, QUEUE}
use Rattle.state.specs.Fit.{Last, Kept, Ready}
use Rattle.state.specs.Lent.{taking, Steps}
use Rattle.state.specs.declared.Rule.{Rule}
use Rattle.state.specs.declared.Verdict.{Verdict}
use Rattle.state.specs.declared.Verdict.TheVariants.{Valid, Invalid}
use Rattle.std.specs.Prelude.{Ok}
use Rattle.state.specs.declared.Answer.TheVariants.{Took}
use Rattle.state.proofs.Bytes.{phase_in, failed_in, Bytes, bytes_same, mark_stored, marks_same}
use Rattle.state.proofs.Codes.{copy_code, claims_code}
use Rattle.state.proofs.Keeping.{Ahead, placed_same, place_same, before_same, last_on, Entries, entries_sets, entries_owner}
use Rattle.state.proofs.Known.{small, order_length, kept_byte, owner_row, x_entries}
use Rattle.state.proofs.Parts.{part_in, part_same, part_set, queue_in, queue_past, queue_x_in, flat_in}
use Rattle.state.proofs.Rows.{set_row, set_none}
use Rattle.state.proofs.Steps.{accepted, same_state}
use Rattle.state.proofs.Waiting.{one_more, holds_any}
use Rattle.queues.proofs.Fronts.{fronted_same, front_code}
use Rattle.entering.specs.Enter.{Entered, ours, ours_x, fails}
use Rattle.takes.specs.Take.{ahead, ahead_x, RuleAt, Finds, Taken}
use Rattle.takes.proofs.Keeping.{apart, queue_apart, kept_count, queued_code, entered, kept_entered}

-- the bytes after: the failed mark alone
abbrev Marked : (b b' : List ℕ) (t : ℕ) → Bool → Type 0
Marked b b' t bad = Bytes b b' (phase_in b) (upd (failed_in b) t (failed_in b t || bad)) (part RUNS 32 b)

-- save t is the next for node n, at its last place; the node's count is already one more
module _ {m : ℕ} {b s q : List ℕ} (r : Ready m b s q) (n t p : ℕ) (n8 : n < 8) (t32 : t < 32)
    (count : part TAKEN 8 q n ≡ p) (next : p < placed q) (here : at (order_in b) p ≡ t) (last : place_in q t ≡ p) where
  abbrev q₁ : List ℕ
  q₁ = set q (TAKEN + n) (p + 1)

  pub t_last : Last b q t
  t_last = rw last (next, here)

  pub kept₁ : Kept m b s q₁
  kept₁ = kept_count q n (p + 1) n8 r.kept

  pub last₁ : Last b q₁ t
  last₁ = last_on (apart q n (p + 1) n8) b t t_last

  module _ (seen w : List ℕ) (x : Slices) where
    abbrev state : State
    state = shown m (taking b s q seen w x) no_tally

    -- ---- The state's tests by the sets

    module _ (k : ℕ) (km : k < m) where
      owns_code : owns state n k ≡ in_row s (OWNED + n) k
      owns_code = owner_row r.kept km n n8

      claimed : claims (state.claim t k) ≡ in_row s (CLAIM + t) k
      claimed = claims_code (in_set m CLAIM s t k) (in_set m CLAIM_X s t k) (r.kept.sets.claimed t k) ∙ set_row m s CLAIM t32 k km

      ours_code : (owns state n k && claims (state.claim t k)) ≡ ours s n t k
      ours_code = rw (owns_code, claimed) (and_comm (in_row s (OWNED + n) k) (in_row s (CLAIM + t) k))

      holds_code : holds (x_on state.claim k) (state.queue k) ≡ any 64 (bit (queue_x_of m q k))
      holds_code = holds_any (order_in b) (place_in q) (placed q) (small r) (queued m q k) (λ u e. r.kept.queues.listed u k km e) (x_on (claim_in m s) k)
          ∙ any_cong 64 (λ u. queued m q k u && x_on (claim_in m s) k u) (bit (queue_x_of m q k)) (λ u l. sym (x_entries r.kept km u))

      x_word : get_or q₁ (QUEUE + 2 * k + 1) 0 ≡ queue_x_of m q k
      x_word = get_or-set_other q (TAKEN + n) (QUEUE + 2 * k + 1) (p + 1) 0 (λ e. omega arith) ∙ sym (queue_x_in m q k km)

      behind_code : behind state t k ≡ (in_row s (COPIED + t) k && ltb (get_or seen (t * m + k) 0) (get_or w (m + k) 0))
      behind_code = rw (
        copy_code (in_set m COPIED s t k) (in_set m WRITTEN s t k) (r.kept.sets.written t k),
        set_row m s COPIED t32 k km,
        flat_in m seen t k km,
        part_in m m w k km,
      )

      fails_code : (owns state n k && fails_at state t k) ≡ fails m s q₁ seen w n t k
      fails_code = both_and (owns state n k) (claims (state.claim t k)) (holds (x_on state.claim k) (state.queue k) || behind state t k)
          ∙ rw (ours_code, holds_code, behind_code, x_word)
        where
          both_and : (a b c : Bool) → (a && (b && c)) ≡ ((a && b) && c)
          both_and true b c = refl
          both_and false b c = refl

      -- where it is the save's and the node's
      module _ (mine : ours s n t k ≡ true) where
        owner_here : owner_in m s 8 k ≡ n
        owner_here = eqb-true (owner_in m s 8 k) n (owns_code ∙ and_r (in_row s (CLAIM + t) k) (in_row s (OWNED + n) k) mine)

        -- an entry there has an earlier place
        earlier : (u : ℕ) → queued m q k u ≡ true → place_in q u < place_in q t
        earlier u e = let l = r.kept.queues.listed u k km e in
            rw last (rw (owner_here, count) at (r.known.entered u k (entries_in (order_in b) (place_in q) (queued m q k) (placed q) u l.0 l.1 e)))

        not_in : queued m q k t ≡ false
        not_in = bool (queued m q k t) (λ e. absurd (irr (earlier t e))) (λ e. e)
          where
            irr : {a : ℕ} → a < a → ⊥
            irr h = omega arith

        -- the entries before save t's own are those that were there
        module _ {q' : List ℕ} (en : Entered m t (ours s n t) (ours_x s n t) q₁ q') where
          before_now : part BEFORE 32 q' ≡ part BEFORE 32 q
          before_now = before_same (record { same = λ i h _. en.rest i h }) ∙ before_same (apart q n (p + 1) n8)

          -- a word with save t added, without what is not before it
          without_t : (c c' u : ℕ) (h : Bool) → bit c' u ≡ (bit c u || (h && eqb u t)) → (bit c u ≡ true → queued m q k u ≡ true) → bit c u ≡ (bit c' u && bit (part BEFORE 32 q' t) u)
          without_t c c' u h e i = rw before_now (same? u t
              (λ z. rw (z, r.kept.places.before t t t32 t32 t_last t_last, le-ltb (place_in q t) (place_in q t) (omega arith), and-false (bit c' t))
              (bool (bit c t) (λ y. clash (queued m q k t) (rw z at (i (rw z y))) not_in) (λ y. y)))
              (λ z. rw (e, ne_eqb u t z, and-false h, or-false (bit c u)) (bool (bit c u) (λ y. rw (y, there u (i y))) (λ y. rw y))))
            where
              there : (u : ℕ) → queued m q k u ≡ true → bit (part BEFORE 32 q t) u ≡ true
              there u y = r.kept.places.before t u t32 (r.kept.queues.saves u k km y) t_last (r.kept.queues.listed u k km y) ∙ lt-ltb (place_in q u) (place_in q t) (earlier u y)

          ahead_code : (u : ℕ) → queued m q k u ≡ ahead q' t k u
          ahead_code u = without_t (queue_of m q k) (get_or q' (QUEUE + 2 * k) 0) u (ours s n t k) (en.queue k u km ∙ rw word) (λ y. y)
            where
              word : get_or q₁ (QUEUE + 2 * k) 0 ≡ queue_of m q k
              word = get_or-set_other q (TAKEN + n) (QUEUE + 2 * k) (p + 1) 0 (λ e. omega arith) ∙ sym (queue_in m q k km)

          ahead_x_code : (u : ℕ) → queued_x m q k u ≡ ahead_x q' t k u
          ahead_x_code u = without_t (queue_x_of m q k) (get_or q' (QUEUE + 2 * k + 1) 0) u (ours_x s n t k) (en.queue_x k u km ∙ rw x_word)
              (λ y. and_l (queued m q k u) (x_on (claim_in m s) k u) (sym (x_entries r.kept km u) ∙ y))

          rule_code : (u : Rule) → RuleAt q' t k u → rule_met (at_front (x_on state.claim k) (state.queue k)) (holds (x_on state.claim k) (state.queue k)) true ≡ some (rule_of u)
          rule_code u e = rw (← front_code r k km, holds_code, ← fronted_same q q' (queue_of m q k) (queue_of m q k) (queue_x_of m q k) (queue_x_of m q k) before_now (λ u l. refl) (λ u l. refl))
              (sym (e (queue_of m q k) (queue_x_of m q k) ahead_code ahead_x_code))

    -- ---- The verdict

    module _ {b' s' q' : List ℕ} {v : Verdict} (tk : Taken m n t b s q₁ seen w b' s' q' v) where
      finding : (u : Verdict) → Finds m b q' t (fails m s q₁ seen w n t) b' u → verdict_of u ≡ verdict (first_cause state n t)
      finding Valid f = sym (ap verdict (first_none m (cause_at state n t) (λ k l. passing state n t k (fails_code k l ∙ f.1 k l))))
      finding (Invalid c) f = sym (ap verdict (first_at m (cause_at state n t) c.sheet (rules.cause c.sheet (rule_of c.rule)) f.1
          (failing state n t c.sheet (rule_of c.rule) (fails_code c.sheet f.1 ∙ f.2)
          (rule_code c.sheet f.1 (and_l (ours s n t c.sheet) _ f.2) tk.entered c.rule f.4))
          (λ k l. passing state n t k (fails_code k (below k l f.1) ∙ f.3 k l))))
        where
          below : (k : ℕ) {a : ℕ} → k < a → a < m → k < m
          below k h l = omega arith

      verdict_code : verdict_of v ≡ verdict (first_cause state n t)
      verdict_code = finding v tk.finds

      -- ---- The state after

      ahead_same : Ahead q q'
      ahead_same = record { same = λ i h d. tk.entered.rest i h ∙ (apart q n (p + 1) n8).same i h d }

      taken_set : part TAKEN 8 q' ≡ upd (part TAKEN 8 q) n (suc (part TAKEN 8 q n))
      taken_set = part_same TAKEN 8 q₁ q' (λ i h. tk.entered.rest (TAKEN + i) (omega arith))
          ∙ part_set TAKEN 8 q n (p + 1) n8 (let a = r.kept.sized.queues in omega arith) ∙ rw (add-one p, count)

      queue_now : (k u : ℕ) → k < m → queued m q' k u ≡ (queued m q k u || (ours s n t k && eqb u t))
      queue_now k u l = queued_code tk.held tk.entered k u l ∙ rw (queue_apart q n (p + 1) n8 m)

      queue_code : (k : ℕ) → entries (order_in b) (place_in q) (queued m q' k) (placed q) ≡ cond (owns state n k && claims (state.claim t k)) (state.queue k ++ t ∷ []) (state.queue k)
      queue_code k = below? k m
          (λ l. bool (ours s n t k)
          (λ y. rw (ours_code k l, y)
          (entries_cong (order_in b) (place_in q) (queued m q' k) (λ u. queued m q k u || eqb u t) (placed q) (λ u. queue_now k u l ∙ rw y)
          ∙ one_more (order_in b) (place_in q) (queued m q k) t (placed q) t_last (λ u _ e. earlier k l y u e)))
          (λ y. rw (ours_code k l, y) (entries_cong (order_in b) (place_in q) (queued m q' k) (queued m q k) (placed q) (λ u. queue_now k u l ∙ rw y (or-false (queued m q k u))))))
          (λ l. rw (unclaimed l, and-false (owns state n k)) (ap (λ (z : ℕ). entries (order_in b) (place_in q) (bit z) (placed q)) (queue_past m q' k l ∙ sym (queue_past m q k l))))
        where
          unclaimed : m ≤ k → claims (state.claim t k) ≡ false
          unclaimed l = rw (set_none m s CLAIM t32 k l, set_none m s CLAIM_X t32 k l)

      bytes_by : (u : Verdict) → Finds m b q' t (fails m s q₁ seen w n t) b' u → Marked b b' t (finds_invalid state n t)
      bytes_by Valid f = rw (f.0, found_valid state n t (finding Valid f), ← marks_same (failed_in b) t) (bytes_same b)
      bytes_by (Invalid c) f = rw (f.0, found_invalid state n t (rules.cause c.sheet (rule_of c.rule)) (finding (Invalid c) f), or-true (failed_in b t))
          (mark_stored (bytes_same b) (let a = r.kept.sized.bytes in omega arith) t32 1)

      bytes : Marked b b' t (finds_invalid state n t)
      bytes = bytes_by v tk.finds

      en : Entries m t s q₁ s' q'
      en = entered tk.held tk.entered

      next_here : rules.next state n ≡ t
      next_here = rw count (get_or-take (placed q) (order_in b) p 0 next ∙ here)

      last_here : next_is_last state n ≡ true
      last_here = rw next_here (eq-eqb (place_in q t) (part TAKEN 8 q n) (last ∙ sym count))

      pub moves_last : n < get_or b NODES 0 → Steps (shown m (taking b s q seen w x)) (Take n) (shown m (taking b' s' q' seen w x)) (Ok (Took t v))
      moves_last nn = accepted
          (λ tally. rw (lt-ltb n (get_or b NODES 0) nn, order_length r.kept.sized, count, lt-ltb p (placed q) next))
          (λ tally. rw (last_here, next_here) (same_state
          (λ i. record { nodes = bytes.nodes i; sheets = m; owner = entries_owner en t32 i })
          refl
          (fun_ext (λ k. rw (place_same ahead_same, placed_same ahead_same, bytes.order) (queue_code k)))
          bytes.phased
          (λ i u k. mark_of (entries_sets en COPIED (omega arith) i u k) (entries_sets en WRITTEN (omega arith) i u k))
          refl
          (λ i u k. claim_of (entries_sets en CLAIM (omega arith) i u k) (entries_sets en CLAIM_X (omega arith) i u k))
          bytes.marked
          bytes.counted
          (rw (placed_same ahead_same, bytes.order))
          (place_same ahead_same)
          taken_set
          refl))
          (λ tally. rw (last_here, next_here, verdict_code))

  -- sizes and sets
  module _ {seen w b' s' q' : List ℕ} {v : Verdict} (tk : Taken m n t b s q₁ seen w b' s' q' v) where
    pub kept_last : Kept m b' s' q'
    kept_last = by v tk.finds
      where
        kept_b : Kept m b s' q'
        kept_b = kept_entered tk.held tk.entered t32 kept₁ last₁

        by : (u : Verdict) → Finds m b q' t (fails m s q₁ seen w n t) b' u → Kept m b' s' q'
        by Valid f = rw f.0 kept_b
        by (Invalid c) f = rw f.0 (kept_byte (FAILED + t) 1 (omega arith) kept_b)
