-- DECIDE: what it stores is its rule's effect.
use Prim.Native.Nat.{ℕ, ◌+◌, ◌≤◌, ◌<◌}
use mathlib.Core.Path.{◌≡◌, refl, sym, ap, ◌∙◌, subst}
use mathlib.Core.Bool.{Bool, true, false, ◌&&◌, cond}
use mathlib.Core.Logic.{◌≢◌}
use mathlib.Core.List.{List}
use native.Mathlib.Omega.{arith}
use native.Mathlib.Numerals.{add-one}
use lib.ListN.{length, get_or, set, take}
use lib.Dec.{ltb}
use borrow.Author.Tests.{ne_eqb, lt-ltb, le-ltb}
use Rattle.rules.specs.Bytes.{Decide}
use Rattle.rules.specs.State.{Tally}
use Rattle.rules.specs.Steps as rules
use Rattle.rules.specs.Steps.{answered, counted_commit, pass, refuse, check}
use Rattle.rules.specs.Table.{all}
use Rattle.rules.proofs.Places.{entries}
use Rattle.sets.specs.Bit.{blocks}
use Rattle.state.specs.declared.Answer.{Answer}
use Rattle.std.specs.Prelude.{Ok, Err}
use Rattle.refusals.specs.Numbers.{number_of}
use Rattle.refusals.specs.declared.Refusal.{Refusal}
use Rattle.refusals.specs.declared.Refusal.TheVariants.{NotGranted}
use Rattle.state.specs.declared.Answer.TheVariants.{Commits, CommitsLater, SecondRun}
use Rattle.state.specs.Slices.{Slices}
use Rattle.state.specs.View.{out_of_phase, set?, part, place_in, placed, queued, shown, result_of, advanced, PHASE, FAILED, RUNS, ORDER}
use Rattle.state.specs.Fit.{Ready, Kept}
use Rattle.state.specs.Lent.{saving}
use Rattle.state.proofs.Lending.{Moves, Keeps}
use Rattle.state.proofs.Bytes.{bytes_same, phase_stored, runs_stored, bytes_shown}
use Rattle.state.proofs.Keeping.{header_beside, claim_beside}
use Rattle.state.proofs.Known.{kept_byte}
use Rattle.state.proofs.OutOfPhase.{submitted_tests}
use Rattle.state.proofs.Parts.{part_in}
use Rattle.state.proofs.Steps.{refused, accepted, same_state}
use Rattle.granting.specs.Granting.{Fits, block_granted}
use Rattle.decides.specs.Settling.{Settles, Settled}
use Rattle.decides.proofs.Copies.{beside, marks_cleared, kept_cleared}
use Rattle.granting.proofs.Granting.{taken_all, granted_all, tests_code}

-- two tests with one number
both : (a b : Bool) (n : ℕ) → a && b ≡ true → cond a (cond b pass (refuse n)) (refuse n) ≡ pass
both true true n e = refl
both true false n e = let z : ◌≡◌ {A = Bool} false true = e in cc
both false b n e = let z : ◌≡◌ {A = Bool} false true = e in cc

not_both : (a b : Bool) (n : ℕ) → a && b ≡ false → cond a (cond b pass (refuse n)) (refuse n) ≡ refuse n
not_both true true n e = let z : ◌≡◌ {A = Bool} true false = e in cc
not_both true false n e = refl
not_both false b n e = refl

-- ---- The step

module _ {m : ℕ} {b s q : List ℕ} (ready : Ready m b s q) (t : ℕ) (t32 : t < 32) where
  pub fits : Fits m t s q
  fits = record { save = t32; sheets = ready.known.sheets16; sets = ready.kept.sized.sets; queues = ready.kept.sized.queues; ends = ready.kept.sets.ends }

  long : ORDER ≤ length b
  long = let a = ready.kept.sized.bytes in omega arith

  pub settles : Settles m t b s
  settles = record {
    clears = record { save = t32; sheets = ready.known.sheets16; sets = ready.kept.sized.sets };
    bytes = let a = long in omega arith;
    runs = rw (part_in RUNS 32 b t t32) at (ready.known.runs t t32);
  }

  module _ {i : ℕ} (row : i ≡ t) where
    abbrev p : ℕ
    p = get_or b (PHASE + i) 0

    at_phase : part PHASE 32 b t ≡ p
    at_phase = rw row (part_in PHASE 32 b t t32)

    pub decide_out : p ≢ 2 → {r : Refusal} → number_of r ≡ out_of_phase p → Moves m (saving b s q) (Decide t) (saving b s q) (Err r)
    decide_out n out x = refused (λ tally. rw (lt-ltb t 32 t32, at_phase, submitted_tests _ p, ne_eqb p 2 n, out))

    module _ (two : p ≡ 2) {g : Bool} (eg : g ≡ all (blocks m) (block_granted s q i)) where
      two' : part PHASE 32 b t ≡ 2
      two' = at_phase ∙ two

      abbrev taken : Bool
      taken = taken_all ready t t32 two'

      abbrev granted : Bool
      granted = granted_all ready t t32 two'

      tests : g ≡ (taken && granted)
      tests = (rw row at eg) ∙ tests_code ready t t32 two'

      pub decide_10 : g ≡ false → Moves m (saving b s q) (Decide t) (saving b s q) (Err NotGranted)
      decide_10 n x = refused (λ tally. rw (lt-ltb t 32 t32, two') (not_both taken granted 10 (sym tests ∙ n)))

      -- by the outcome
      module _ (y : g ≡ true) where
        passes : (x : Slices) (tally : Tally) → check (shown m (saving b s q x) tally) (Decide t) ≡ pass
        passes x tally = rw (lt-ltb t 32 t32, two') (both taken granted 10 (sym tests ∙ y))

        module _ (b' s' : List ℕ) (c : Bool) (settled : Settled m i b s b' s' c) where
          st : Settled m t b s b' s' c
          st = rw row at settled

          -- from the first run, or from a later one
          module _ (done : c ≡ true) where
            abbrev r : ℕ
            r = get_or b (RUNS + i) 0

            runs : get_or b (RUNS + t) 0 ≡ r
            runs = ap (λ (j : ℕ). get_or b (RUNS + j) 0) (sym row)

            committed : Settled m t b s b' s' true
            committed = subst (λ (c : Bool). Settled m t b s b' s' c) done st

            f0 : part FAILED 32 b t ≡ 0
            f0 = part_in FAILED 32 b t t32 ∙ committed.0

            commits : {a : Answer} → ((tally : Tally) → advanced tally a ≡ counted_commit (ltb 1 r) tally) → result_of a ≡ answered rules.commits → Moves m (saving b s q) (Decide t) (saving b' s' q) (Ok a)
            commits count result x = rw (committed.1, committed.2) (accepted
                (passes x)
                (λ tally. rw (f0, part_in RUNS 32 b t t32, runs, count tally) (bytes_shown (phase_stored (bytes_same b) long t32 4) m (saving b s q x) (counted_commit (ltb 1 r) tally) tally))
                (λ tally. rw f0 result))

            pub decide_first : r ≤ 1 → Moves m (saving b s q) (Decide t) (saving b' s' q) (Ok Commits)
            decide_first o = commits (λ tally. rw (le-ltb 1 r o)) refl

            pub decide_later : 1 < r → Moves m (saving b s q) (Decide t) (saving b' s' q) (Ok CommitsLater)
            decide_later o = commits (λ tally. rw (lt-ltb 1 r o)) refl

          -- the run's number and phase, and no copy
          pub decide_again : c ≡ false → Moves m (saving b s q) (Decide t) (saving b' s' q) (Ok SecondRun)
          decide_again n x = let z = subst (λ (c : Bool). Settled m t b s b' s' c) n st in
              let g = phase_stored (runs_stored (bytes_same b) long t32 (get_or b (RUNS + t) 0 + 1)) long t32 3 in
              let f1 : set? (part FAILED 32 b t) ≡ true = rw (part_in FAILED 32 b t t32, ne_eqb (get_or b (FAILED + t) 0) 0 z.0) in
              rw z.1 (accepted
              (passes x)
              (λ tally. rw f1 (same_state
              (header_beside (beside m t s s' t32 z.2) b (set (set b (RUNS + t) (get_or b (RUNS + t) 0 + 1)) (PHASE + t) 3) g.nodes)
              refl
              (λ i k. entries (g.order i) (place_in q) (queued m q k) (placed q))
              g.phased
              (marks_cleared m t s s' t32 z.2)
              refl
              (claim_beside (beside m t s s' t32 z.2))
              g.marked
              (g.counted ∙ rw (part_in RUNS 32 b t t32, add-one (get_or b (RUNS + t) 0)))
              (λ i. take (placed q) (g.order i))
              refl refl refl))
              (λ tally. rw f1))

  -- ---- Sizes and sets

  kept_settled : (b' s' : List ℕ) (c : Bool) → Settled m t b s b' s' c → Kept m b s q → Kept m b' s' q
  kept_settled b' s' true st k = rw (st.1, st.2) (kept_byte (PHASE + t) 4 (omega arith) k)
  kept_settled b' s' false st k = rw st.1 (kept_cleared m t s s' t32 st.2 (kept_byte (PHASE + t) 3 (omega arith) (kept_byte (RUNS + t) (get_or b (RUNS + t) 0 + 1) (omega arith) k)))

  pub keeps_settled : {i : ℕ} → i ≡ t → (b' s' : List ℕ) (c : Bool) → Settled m i b s b' s' c → Keeps m (saving b s q) (saving b' s' q)
  keeps_settled row b' s' c st x f = record { kept = kept_settled b' s' c (rw row at st) f.kept; value = f.value; seen = f.seen; sheets = f.sheets }
