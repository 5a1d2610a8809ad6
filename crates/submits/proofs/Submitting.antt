-- SUBMIT: what it stores is its rule's effect, and keeps what the commands rely on.
use Prim.Native.Nat.{ℕ, ◌+◌, ◌*◌, ◌≤◌, ◌<◌}
use mathlib.Core.Path.{◌≡◌, refl, sym, ap, ◌∙◌}
use mathlib.Core.Bool.{Bool, true, false, ◌&&◌, ◌||◌}
use mathlib.Core.Logic.{◌≢◌}
use mathlib.Core.List.{List}
use native.Mathlib.Omega.{arith}
use lib.ListN.{length, get_or, set}
use lib.Dec.{eqb}
use borrow.Author.Tests.{ne_eqb, lt-ltb}
use Rattle.rules.specs.Bytes.{Submit}
use Rattle.rules.specs.State.{Tally, State, is_first}
use Rattle.rules.specs.Steps.{pass, check, counted, counted_second, submit_save, join_order}
use Rattle.sets.specs.Bit.{in_row, stride, blocks}
use Rattle.std.specs.Prelude.{Ok, Err}
use Rattle.refusals.specs.Numbers.{number_of}
use Rattle.refusals.specs.declared.Refusal.{Refusal}
use Rattle.state.specs.declared.Answer.TheVariants.{Accepted, Recommits}
use Rattle.state.specs.Slices.{Slices}
use Rattle.state.specs.View.{as_phase, out_of_phase, part, placed, shown, PHASE, ORDER, PLACED, QUEUE, HELD, rows}
use Rattle.state.specs.Fit.{most_places, Kept, Ready}
use Rattle.state.specs.Lent.{saving}
use Rattle.state.proofs.Lending.{Moves, Keeps}
use Rattle.state.proofs.Bytes.{bytes_same, phase_stored, bytes_shown}
use Rattle.state.proofs.Codes.{first_code, second_code}
use Rattle.state.proofs.Keeping.{placed_same, entries_ahead}
use Rattle.state.proofs.Known.{kept_byte}
use Rattle.state.proofs.OutOfPhase.{running_tests}
use Rattle.state.proofs.Parts.{part_in}
use Rattle.state.proofs.Steps.{refused, accepted}
use Rattle.leaving.specs.Left.{Left}
use Rattle.leaving.proofs.Stands.{left, kept_left}
use Rattle.submits.specs.Wide.{wide_in}
use Rattle.joining.specs.Joining.{Freed, Joining}
use Rattle.submits.proofs.Joins.{Free, joins, kept_after}
use Rattle.submits.proofs.Freeing.{finds_room, first_free, freed_free, freed_view, no_entry_left, left_view}

keeps : {m : ℕ} (b s q : List ℕ) {b' s' q' : List ℕ} → Kept m b' s' q' → Keeps m (saving b s q) (saving b' s' q')
keeps b s q k x f = record { kept = k; value = f.value; seen = f.seen; sheets = f.sheets }

module _ {m : ℕ} {b s q : List ℕ} (r : Ready m b s q) {t i : ℕ} (row : (i ≡ t) × (t < 32)) where
  abbrev p : ℕ
  p = get_or b (PHASE + i) 0

  t32 : t < 32
  t32 = row.1

  at_phase : part PHASE 32 b t ≡ p
  at_phase = rw row.0 (part_in PHASE 32 b t row.1)

  pub out : {n : Refusal} → number_of n ≡ out_of_phase p → p ≢ 1 → p ≢ 3 → Moves m (saving b s q) (Submit t) (saving b s q) (Err n)
  out e d f x = refused (λ tally. rw (lt-ltb t 32 t32, at_phase, running_tests pass p, ne_eqb p 1 d, ne_eqb p 3 f, e))

  passes : (eqb p 1 || eqb p 3) ≡ true → (x : Slices) (tally : Tally) → check (shown m (saving b s q x) tally) (Submit t) ≡ pass
  passes e x tally = rw (lt-ltb t 32 t32, at_phase, running_tests pass p, e)

  -- the rule's own test
  abbrev joining : Bool
  joining = is_first (as_phase (part PHASE 32 b t)) || wide_in m s t

  joined : (b' s' q' : List ℕ) → (eqb p 1 || eqb p 3) ≡ true → joining ≡ true
      → ((x : Slices) (tally : Tally) → shown m (saving b' s' q' x) (counted tally) ≡ join_order (shown m (saving b s q x) tally) t) → Moves m (saving b s q) (Submit t) (saving b' s' q') (Ok Accepted)
  joined b' s' q' e w v x = accepted (passes e x) (λ tally. v x tally ∙ ap (λ (y : Bool). submit_save y (shown m (saving b s q x) tally) t) (sym w)) (λ tally. refl)

  -- ---- What a joining asks for

  has_room : (eqb p 1 || eqb p 3) ≡ true → placed q < most_places
  has_room e = finds_room r t32 (rw at_phase (rw (first_code p, second_code p) e))

  abbrev Fits : (s q : List ℕ) → Type 0
  Fits s q = (ORDER + most_places ≤ length b) × (stride * blocks m + rows ≤ length s + stride) × (QUEUE ≤ length q) × (placed q < most_places) × (m < 65536) × (t < 32)

  fits_in : (s₁ q₁ : List ℕ) → (eqb p 1 || eqb p 3) ≡ true → length s₁ ≡ length s → length q₁ ≡ length q → placed q₁ ≡ placed q → Fits s₁ q₁
  fits_in s₁ q₁ e ls lq lp = let z = r.kept.sized in (z.bytes, rw ls z.sets, rw lq (let a = z.queues in omega arith), rw lp (has_room e), r.known.sheets16, t32)

  pub first_fits : p ≡ 1 → Fits s q
  first_fits e = fits_in s q (rw e) refl refl refl

  -- ---- The first run

  module _ (first : p ≡ 1) {b' s' q' : List ℕ} (j : Joining m t b s q b' s' q') where
    free : Free m t b s q
    free = first_free r t32 (at_phase ∙ first)

    pub first_joins : Moves m (saving b s q) (Submit t) (saving b' s' q') (Ok Accepted) × Keeps m (saving b s q) (saving b' s' q')
    first_joins = (joined b' s' q' (rw first) (rw (at_phase, first)) (joins t32 free j), keeps b s q (kept_after t32 free j))

  -- ---- A wide run

  module _ (second : p ≡ 3) {s₁ q₁ q₂ : List ℕ} (gone : Left m i (λ k. in_row s (HELD + i) k && in_row s (HELD + i) k) s q s₁ q₁) (freed : Freed i q₁ q₂) where
    g : Left m t (λ k. in_row s (HELD + t) k && in_row s (HELD + t) k) s q s₁ q₁
    g = rw row.0 at gone

    h : Freed t q₁ q₂
    h = rw row.0 at freed

    pub left_fits : Fits s₁ q₂
    left_fits = fits_in s₁ q₂ (rw second) g.long_s (h.long ∙ g.long_q) (h.front PLACED (omega arith) ∙ placed_same (entries_ahead (left g)))

    left_free : Free m t b s₁ q₂
    left_free = freed_free m b s₁ h (kept_left g t32 r.kept) (rw (placed_same (entries_ahead (left g))) (has_room (rw second))) (no_entry_left b t32 g r.kept.queues (λ k. refl))

    pub wide_joins : {b' s' q' : List ℕ} → Joining m t b s₁ q₂ b' s' q' → true ≡ wide_in m s i
        → Moves m (saving b s q) (Submit t) (saving b' s' q') (Ok Accepted) × Keeps m (saving b s q) (saving b' s' q')
    wide_joins {b'} {s'} {q'} j w = (
      joined b' s' q' (rw second) (rw (at_phase, second) (sym (rw row.0 at w)))
          (λ x tally. joins t32 left_free j x tally ∙ sym (ap (λ (y : State). join_order y t) (freed_view m b s₁ h x tally)) ∙ sym (left_view b t32 g x tally)),
      keeps b s q (kept_after t32 left_free j),
    )

  -- ---- A run within its claim

  abbrev b₄ : List ℕ
  b₄ = set b (PHASE + i) 4

  pub commits : p ≡ 3 → false ≡ wide_in m s i → Moves m (saving b s q) (Submit t) (saving b₄ s q) (Ok Recommits)
  commits second w x = accepted (passes (rw second) x)
      (λ tally. ap (λ (j : ℕ). shown m (saving (set b (PHASE + j) 4) s q x) (counted_second tally)) row.0
      ∙ bytes_shown (phase_stored (bytes_same b) (let a = r.kept.sized.bytes in omega arith) t32 4) m (saving b s q x) (counted_second tally) tally
      ∙ ap (λ (y : Bool). submit_save y (shown m (saving b s q x) tally) t) (sym test))
      (λ tally. refl)
    where
      test : joining ≡ false
      test = rw (at_phase, second) (sym (rw row.0 at w))

  pub commits_keeps : Keeps m (saving b s q) (saving b₄ s q)
  commits_keeps = rw row.0 (keeps b s q (kept_byte (PHASE + t) 4 (omega (arith, row.1)) r.kept))
