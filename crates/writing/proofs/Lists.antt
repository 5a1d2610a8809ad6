-- A list of steps in words, one step after the other.
use Prim.Native.Nat.{ℕ, suc, ◌+◌, ◌*◌, ◌≤◌, ◌<◌, min}
use mathlib.Core.Path.{◌≡◌, refl, sym, ap, ◌∙◌}
use mathlib.Core.List.{List, [], ◌∷◌}
use mathlib.Core.Option.{some}
use native.Mathlib.Nat.{add-zero}
use native.Mathlib.Numerals.{add-one}
use native.Mathlib.Omega.{arith}
use lib.ListN.{length, get_or, drop, length-append, length-drop, drop_of_length-le}
use lib.Seq.{drop-cons, get_or-drop}
use Rattle.std.specs.Prelude.{Ok}
use Rattle.rules.specs.Bytes.{widths}
use Rattle.rules.specs.Steps.{pass, refuse}
use Rattle.rules.specs.Writing.{Instruction, at, check_step, steps_refusal, step_bytes, steps_bytes, instructions}
use Rattle.forms.specs.Slots.{operands}
use Rattle.forms.specs.declared.Kind.{Kind}
use Rattle.forms.proofs.Slots.{step_size}
use Rattle.forms.proofs.Shapes.{size_small}
use Rattle.writing.specs.Meaning.{too_many, Tested, step_in}

-- ---- What stands at word i

module _ (ws : List ℕ) (i : ℕ) where
  pub next_step : i + 4 ≤ length ws → instructions (drop i ws) ≡ step_in ws i ∷ instructions (drop (i + 4) ws)
  next_step l =
      let a : i + 1 ≡ suc i = omega arith in
      let b : i + 2 ≡ suc (suc i) = omega arith in
      let c : i + 3 ≡ suc (suc (suc i)) = omega arith in
      let d : i + 4 ≡ suc (suc (suc (suc i))) = omega arith in
      rw (a, b, c, d, drop-cons ws i 0 (omega arith), drop-cons ws (suc i) 0 (omega arith), drop-cons ws (suc (suc i)) 0 (omega arith), drop-cons ws (suc (suc (suc i))) 0 (omega arith))

  pub no_step : length ws ≤ i → instructions (drop i ws) ≡ []
  no_step l = rw (drop_of_length-le ws l)

-- what is left over is a step cut short
pub cut_of : {P : Type 0} (l : List ℕ) → 0 < length l → length l < 4 → ((vs : List ℕ) → length vs < 3 → instructions l ≡ record { number = get_or l 0 0; operands = vs } ∷ [] → P) → P
cut_of [] a b on = absurd (omega arith)
cut_of (c ∷ []) a b on = on [] (omega arith) refl
cut_of (c ∷ x ∷ []) a b on = on (x ∷ []) (omega arith) refl
cut_of (c ∷ x ∷ y ∷ []) a b on = on (x ∷ y ∷ []) (omega arith) refl
cut_of (c ∷ x ∷ y ∷ z ∷ l) a b on = absurd (omega arith)

-- ---- The steps before number q passed

pub record Passed (n m : ℕ) (ws : List ℕ) (q t : ℕ) : Type 0 where
  pub refusal : steps_refusal n m 0 (instructions ws) ≡ steps_refusal n m q (instructions (drop (4 * q) ws))
  pub count : length (instructions ws) ≡ q + length (instructions (drop (4 * q) ws))
  pub total : length (steps_bytes (instructions ws)) ≡ t + length (steps_bytes (instructions (drop (4 * q) ws)))
  pub small : t ≤ 7 * q

module _ {n m : ℕ} {ws : List ℕ} {q t : ℕ} (p : Passed n m ws q t) where
  module _ (l : 4 * q + 4 ≤ length ws) where
    pub passed_next : (k : Kind) → k.number ≡ get_or ws (4 * q) 0 → check_step n m (step_in ws (4 * q)) ≡ pass → (w : ℕ) → w ≡ 1 + widths (operands k.number) → Passed n m ws (q + 1) (t + w)
    unfolding steps_refusal steps_bytes
    passed_next k c ok w s =
        let i = 4 * q in
        let rest = instructions (drop (i + 4) ws) in
        let x = next_step ws i l in
        let next : 4 * (q + 1) ≡ i + 4 = omega arith in
        let size : w ≡ 1 + widths (operands (get_or ws i 0)) = s ∙ rw c in
        let sum : length (steps_bytes (instructions (drop i ws))) ≡ w + length (steps_bytes rest) = ap (λ (is : List Instruction). length (steps_bytes is)) x ∙ length-append (step_bytes (step_in ws i)) (steps_bytes rest) ∙ rw (step_size (get_or ws i 0) (get_or ws (i + 1) 0) (get_or ws (i + 2) 0) (get_or ws (i + 3) 0), size) in
        record {
          refusal = p.refusal ∙ rw (x, ok, add-one, ← add-one q, next);
          count = p.count ∙ rw (x, next) (omega arith);
          total = p.total ∙ rw (sum, next) (omega arith);
          small = omega (arith, p.small, size_small k.number k.known);
        }

    pub passed_refused : (e : ℕ) → check_step n m (step_in ws (4 * q)) ≡ refuse e → steps_refusal n m 0 (instructions ws) ≡ some (at q e)
    unfolding steps_refusal
    passed_refused e r = p.refusal ∙ rw (next_step ws (4 * q) l, r)

  pub passed_cut : (e : ℕ) → ((n m : ℕ) (vs : List ℕ) → length vs < 3 → check_step n m (record { number = get_or ws (4 * q) 0; operands = vs }) ≡ refuse e) → 4 * q < length ws → length ws < 4 * q + 4
      → steps_refusal n m 0 (instructions ws) ≡ some (at q e)
  unfolding steps_refusal
  passed_cut e r l k =
      let i = 4 * q in
      let n_left : 0 < length (drop i ws) = rw length-drop (omega arith) in
      let few_left : length (drop i ws) < 4 = rw length-drop (omega arith) in
      let first : get_or (drop i ws) 0 0 ≡ get_or ws i 0 = get_or-drop i ws 0 0 ∙ rw add-zero in
      cut_of (drop i ws) n_left few_left (λ vs short x. p.refusal ∙ rw (x, first, r n m vs short))

  pub passed_all : length ws ≤ 4 * q → (u : ℕ) → u ≡ min t too_many → Tested n m (instructions ws) (Ok (record { steps = q; bytes = u }))
  unfolding steps_refusal steps_bytes
  passed_all l u c =
      let x = no_step ws (4 * q) l in
      let none_left : length (steps_bytes (instructions (drop (4 * q) ws))) ≡ 0 = rw x in
      (p.refusal ∙ rw x, (sym (p.count ∙ rw x (omega arith)), c ∙ rw (p.total, none_left) (omega arith)))
