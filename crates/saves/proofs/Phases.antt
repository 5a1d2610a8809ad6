-- BEGIN and GIVE UP: what they store is their rules' effect.
use Prim.Native.Nat.{ℕ, suc, ◌+◌, ◌≤◌, ◌<◌}
use mathlib.Core.Path.{◌≡◌, refl, sym, ap, ◌∙◌}
use mathlib.Core.Bool.{true, false, ◌||◌}
use mathlib.Core.Logic.{◌≢◌}
use mathlib.Core.List.{List}
use native.Mathlib.Omega.{arith}
use native.Mathlib.Numerals.{add-one}
use lib.ListN.{length, get_or, set}
use lib.Dec.{eqb}
use borrow.Author.Tests.{eq-eqb, ne_eqb, lt-ltb}
use Rattle.rules.specs.Bytes.{Begin, GiveUp}
use Rattle.rules.specs.State.{Tally}
use Rattle.rules.specs.Steps.{pass, refuse, check, counted}
use Rattle.std.specs.Prelude.{Ok, Err}
use Rattle.refusals.specs.Numbers.{number_of}
use Rattle.refusals.specs.declared.Refusal.{Refusal}
use Rattle.state.specs.declared.Answer.TheVariants.{Accepted}
use Rattle.state.specs.Slices.{Slices}
use Rattle.state.specs.View.{out_of_phase, shown, part, PHASE, RUNS, ORDER}
use Rattle.state.specs.Lent.{own}
use Rattle.state.proofs.Lending.{Moves, Keeps}
use Rattle.state.proofs.Bytes.{bytes_same, phase_stored, runs_stored, bytes_shown}
use Rattle.state.proofs.Known.{kept_byte}
use Rattle.state.proofs.OutOfPhase.{unused_tests, running_tests}
use Rattle.state.proofs.Parts.{part_in}
use Rattle.state.proofs.Steps.{refused, accepted}

module _ (m : ℕ) (b : List ℕ) where
  keeps_byte : (i v : ℕ) → i < ORDER → Keeps m (own b) (own (set b i v))
  keeps_byte i v h x f = record { kept = kept_byte i v h f.kept; value = f.value; seen = f.seen; sheets = f.sheets }

-- one more run fits
pub run_fits : (b : List ℕ) {t i : ℕ} → (i ≡ t) × (t < 32) → ((u : ℕ) → part RUNS 32 b u < 255) → get_or b (RUNS + i) 0 < 255
run_fits b {t} row f = rw row.0 (rw (part_in RUNS 32 b t row.1) at (f t))

module _ (m : ℕ) (b : List ℕ) (long : ORDER ≤ length b) {t i : ℕ} (row : (i ≡ t) × (t < 32)) where
  abbrev p : ℕ
  p = get_or b (PHASE + i) 0

  at_phase : part PHASE 32 b t ≡ p
  at_phase = rw row.0 (part_in PHASE 32 b t row.1)

  pub begin_out : {r : Refusal} → number_of r ≡ out_of_phase p → p ≢ 0 → Moves m (own b) (Begin t) (own b) (Err r)
  begin_out out d x = refused (λ tally. rw (lt-ltb t 32 row.1, at_phase, unused_tests pass p, ne_eqb p 0 d, out))

  pub give_up_out : (r : Refusal) → ((eqb p 1 || eqb p 3) ≡ false) × (number_of r ≡ out_of_phase p) → (x : Slices) (tally : Tally) → check (shown m (own b x) tally) (GiveUp t) ≡ refuse (number_of r)
  give_up_out r out x tally = rw (lt-ltb t 32 row.1, at_phase, running_tests pass p, out.0, out.1)

  pub gives_up : (eqb p 1 || eqb p 3) ≡ true → Moves m (own b) (GiveUp t) (own (set b (PHASE + i) 5)) (Ok Accepted)
  gives_up run x = accepted
      (λ tally. rw (lt-ltb t 32 row.1, at_phase, running_tests pass p, run))
      (λ tally. rw row.0 (bytes_shown (phase_stored (bytes_same b) long row.1 5) m x (counted tally) tally))
      (λ tally. refl)

  once_more : get_or b (RUNS + i) 0 + 1 ≡ suc (part RUNS 32 b t)
  once_more = rw row.0 (add-one (get_or b (RUNS + t) 0) ∙ ap suc (sym (part_in RUNS 32 b t row.1)))

  pub begins : p ≡ 0 → Moves m (own b) (Begin t) (own (set (set b (RUNS + i) (get_or b (RUNS + i) 0 + 1)) (PHASE + i) 1)) (Ok Accepted)
  begins z x = accepted
      (λ tally. rw (lt-ltb t 32 row.1, at_phase, unused_tests pass p, eq-eqb p 0 z))
      (λ tally. rw (once_more, row.0) (bytes_shown (phase_stored (runs_stored (bytes_same b) long row.1 (suc (part RUNS 32 b t))) long row.1 1) m x (counted tally) tally))
      (λ tally. refl)

module _ (m : ℕ) (b : List ℕ) {t i : ℕ} (row : (i ≡ t) × (t < 32)) where
  pub keeps_phase : (v : ℕ) → Keeps m (own b) (own (set b (PHASE + i) v))
  keeps_phase v = rw row.0 (keeps_byte m b (PHASE + t) v (omega (arith, row.1)))

  pub keeps_run : (n v : ℕ) → Keeps m (own b) (own (set (set b (RUNS + i) n) (PHASE + i) v))
  keeps_run n v x f = rw row.0 (keeps_byte m (set b (RUNS + t) n) (PHASE + t) v (omega (arith, row.1)) x (keeps_byte m b (RUNS + t) n (omega (arith, row.1)) x f))
