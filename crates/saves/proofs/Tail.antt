-- A byte behind the end of an order with no place. No state shows it, and sizes and sets stand, so a command that also stores one there moves as its rule
-- says, keeps what it must, and changes the bytes only. No function stores one: these laws are the proof of a wrong body, must-fail/byte_behind_the_order,
-- which `alone` refuses, since it holds of every order, also of one whose place that byte is.
use Prim.Native.Nat.{ℕ, ◌<◌}
use mathlib.Core.Path.{◌≡◌, refl, ap, ◌∙◌, fun_ext}
use mathlib.Core.Bool.{Bool}
use mathlib.Core.List.{List}
use native.Mathlib.Omega.{arith}
use native.Mathlib.Nat.{not-suc-le-zero}
use lib.ListN.{set, length-set}
use lib.Seq.{get_or-set_other}
use Rattle.rules.specs.State.{Phase, Tally}
use Rattle.rules.proofs.Places.{entries}
use Rattle.state.specs.Slices.{Slices}
use Rattle.state.specs.View.{as_phase, set?, owner_in, placed, place_in, shown, PHASE, FAILED, RUNS, NODES, ORDER}
use Rattle.state.specs.Lent.{own}
use Rattle.state.specs.Fit.{Fit}
use Rattle.state.proofs.Parts.{part_apart}
use Rattle.state.proofs.Steps.{same_state}
use Rattle.std.specs.Prelude.{Result}
use Rattle.refusals.specs.declared.Refusal.{Refusal}
use Rattle.rules.specs.Bytes.{Command}
use Rattle.rules.specs.State.{State}
use Rattle.state.specs.declared.Answer.{Answer}
use Rattle.state.specs.Lent.{Steps}
use Rattle.state.specs.View.{result_in, advanced_in}

module _ (m : ℕ) (b : List ℕ) (v : ℕ) (x : Slices) (z : placed x.queues ≡ 0) where
  none : (u : ℕ) → place_in x.queues u < placed x.queues → {A : Type 0} → A
  none u h = absurd (not-suc-le-zero (rw z at h))

  pub tail_shown : (tally : Tally) → shown m (own (set b ORDER v) x) tally ≡ shown m (own b x) tally
  unfolding entries
  tail_shown tally = same_state
      (λ i. record { nodes = get_or-set_other b ORDER NODES v 0 (λ e. omega arith) i; sheets = m; owner = owner_in m x.sets 8 })
      refl
      (fun_ext (λ k. rw z refl))
      (ap {B = ℕ → Phase} (λ (p : ℕ → ℕ) u. as_phase (p u)) (part_apart PHASE 32 b ORDER v (λ i h e. omega arith)))
      refl refl refl
      (ap {B = ℕ → Bool} (λ (p : ℕ → ℕ) u. set? (p u)) (part_apart FAILED 32 b ORDER v (λ i h e. omega arith)))
      (part_apart RUNS 32 b ORDER v (λ i h e. omega arith))
      (rw z refl) refl refl refl

  pub tail_fits : Fit m (own b x) → Fit m (own (set b ORDER v) x)
  tail_fits f = record {
    kept = record {
      sized = record { bytes = rw length-set f.kept.sized.bytes; sets = f.kept.sized.sets; queues = f.kept.sized.queues; fits = f.kept.sized.fits };
      sets = f.kept.sets;
      queues = record {
        held = f.kept.queues.held;
        exclusive = f.kept.queues.exclusive;
        saves = f.kept.queues.saves;
        saves_x = f.kept.queues.saves_x;
        listed = λ u k l e. none u (f.kept.queues.listed u k l e).0;
      };
      places = record {
        before = λ u w hu hw lu lw. none u lu.0;
        among = f.kept.places.among;
        joined = λ u hu l. none u l.0;
        last = λ u e. none u (f.kept.places.last u e).1.0;
      };
    };
    value = f.value;
    seen = f.seen;
    sheets = f.sheets;
  }

  pub tail_steps : {before : Tally → State} {c : Command} {r : Result Answer Refusal} → Steps before c (shown m (own b x)) r → Steps before c (shown m (own (set b ORDER v) x)) r
  tail_steps {r = r} s = record { equation = λ tally. (λ i. record { state = tail_shown (advanced_in tally r) i; result = result_in r }) ∙ s.equation tally }
