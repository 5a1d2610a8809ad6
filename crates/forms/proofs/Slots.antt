-- The rules' tests and sizes of a step, by the operands at its slots.
use Prim.Native.Nat.{ℕ, zero, suc, ◌+◌, ◌≤◌}
use mathlib.Core.Path.{◌≡◌, refl, sym, ◌∙◌}
use mathlib.Core.Bool.{true, false, ◌&&◌, and-true, cond}
use mathlib.Core.List.{List, [], ◌∷◌}
use mathlib.Core.Option.{Option, none, some}
use native.Mathlib.Omega.{arith}
use borrow.Author.Tests.{ne_eqb, le-ltb, leb-true, leb-false}
use lib.Dec.{eqb, ltb, leb}
use lib.ListN.{length}
use Rattle.rules.specs.Bytes.{Operand, Form, commands, widths}
use Rattle.rules.specs.Steps.{pass, refuse}
use Rattle.rules.specs.Writing.{form, operands_in, step_bytes, slots, operands_fit, check_step}
use Rattle.rules.proofs.Table.{bool, same?, clash}
use Rattle.rules.proofs.Writing.{All, in_table, number_found, few_operands, operand_bytes_length}
use Rattle.forms.specs.Slots.{three, step, slot, operands, is_present, Known, slot_limit}

-- ---- The numbers of commands

-- a number with an operand has a line in the table
pub known_form : {P : Type 0} (c : ℕ) → Known c → ((f : Form) → form c ≡ some f → P) → P
unfolding operands
known_form {P} c k on = by (form c) refl
  where
    by : (o : Option Form) → form c ≡ o → P
    by none q = absurd (clash false (rw q at k) refl)
    by (some f) q = on f q

-- what holds of every line holds of a command's number and operands
pub by_table : (P : ℕ → List Operand → Type 0) → All (λ f. P f.number f.operands) commands → (c : ℕ) → Known c → P c (operands c)
unfolding operands form
by_table P a c k =
    known_form c k (λ f q. rw (q, ← number_found c commands f q) (in_table (λ f. P f.number f.operands) commands a c f q))

-- the largest number of a command
abbrev pub last_number : ℕ
last_number = 8

pub number_range : (c : ℕ) → Known c → (1 ≤ c) × (c ≤ last_number)
number_range c k = by_table (λ c os. (1 ≤ c) × (c ≤ last_number)) (search arith) c k

abbrev Known_to : ℕ → Type 0
Known_to zero = Unit {0}
Known_to (suc k) = Known_to k × Known (suc k)

known_to : (k : ℕ) → Known_to k → (c : ℕ) → 1 ≤ c → c ≤ k → Known c
known_to zero a c l h = absurd (omega arith)
known_to (suc k) a c l h = same? c (suc k) (λ e. rw e a.1) (λ n. known_to k a.0 c l (omega arith))

in_range : (c : ℕ) → 1 ≤ c → c ≤ last_number → Known c
unfolding operands form
in_range c l h = known_to last_number (search refl) c l h

pub out_of_range : (c : ℕ) → (Known c → ⊥) → is_present (slot (operands c) 0) ≡ false
out_of_range c n = bool (is_present (slot (operands c) 0)) (λ e. absurd (n e)) (λ e. e)

pub known_by : (c : ℕ) → 1 ≤ c → leb c last_number ≡ is_present (slot (operands c) 0)
known_by c l =
    bool (leb c last_number)
    (λ e. e ∙ sym (in_range c l (leb-true c last_number e)))
    (λ e. e ∙ sym (out_of_range c (λ k. omega (arith, number_range c k, leb-false c last_number e))))

-- and a line of the table is a command's
pub form_known : (c : ℕ) (f : Form) → form c ≡ some f → Known c
unfolding operands form
form_known c f q = rw q (in_table (λ f. is_present (slot f.operands 0) ≡ true) commands (search refl) c f q)

pub unknown_form : (c : ℕ) → is_present (slot (operands c) 0) ≡ false → form c ≡ none
unknown_form c e = by (form c) refl
  where
    by : (o : Option Form) → form c ≡ o → form c ≡ none
    by none q = q
    by (some f) q = clash (is_present (slot (operands c) 0)) (form_known c f q) e

-- ---- The operands of three slots

few : (c : ℕ) → length (operands c) ≤ slots
unfolding operands
few c = by (form c) refl
  where
    by : (o : Option Form) → form c ≡ o → length (operands_in o) ≤ slots
    by none e = omega arith
    by (some f) e = few_operands c f e

zero_below : (v : ℕ) → eqb v 0 ≡ ltb v 1
zero_below zero = refl
zero_below (suc v) = ne_eqb (suc v) 0 (λ e. omega arith) ∙ sym (le-ltb (suc v) 1 (omega arith))

module _ (n m x y z : ℕ) where
  fits_by : (os : List Operand) → length os ≤ slots → operands_fit n m os (three x y z) ≡ ltb x (slot_limit n m (slot os 0)) && (ltb y (slot_limit n m (slot os 1)) && ltb z (slot_limit n m (slot os 2)))
  fits_by [] l = rw (zero_below x, zero_below y, zero_below z, and-true)
  fits_by (a ∷ []) l = rw (zero_below y, zero_below z, and-true)
  fits_by (a ∷ b ∷ []) l = rw (zero_below z, and-true)
  fits_by (a ∷ b ∷ d ∷ []) l = simp and-true
  fits_by (a ∷ b ∷ d ∷ e ∷ os) l = absurd (omega arith)

  pub operands_fit_by : (c : ℕ) → operands_fit n m (operands c) (three x y z) ≡ ltb x (slot_limit n m (slot (operands c) 0)) && (ltb y (slot_limit n m (slot (operands c) 1)) && ltb z (slot_limit n m (slot (operands c) 2)))
  operands_fit_by c = fits_by (operands c) (few c)

-- ---- A step by its command number

module _ (n m c x y z : ℕ) where
  pub check_unknown : is_present (slot (operands c) 0) ≡ false → check_step n m (step c x y z) ≡ refuse 2
  check_unknown e = rw (unknown_form c e)

  pub check_known : Known c → check_step n m (step c x y z) ≡ cond (operands_fit n m (operands c) (three x y z)) pass (refuse 4)
  unfolding operands
  check_known k = known_form c k (λ f q. rw q)

pub step_size : (c x y z : ℕ) → length (step_bytes (step c x y z)) ≡ 1 + widths (operands c)
unfolding operands
step_size c x y z = omega (arith, operand_bytes_length (operands_in (form c)) (three x y z))
