-- The numbers of a step's operands, from its bytes, and what they earn.
use Prim.Native.Nat.{ℕ, suc, ◌+◌, ◌-◌, ◌≤◌, ◌<◌}
use mathlib.Core.Path.{◌≡◌, refl, ◌∙◌}
use mathlib.Core.Bool.{Bool, true, false, not, ◌&&◌, and-true, cond}
use mathlib.Core.List.{List, [], ◌∷◌}
use native.Mathlib.Omega.{arith}
use borrow.Author.Tests.{lt-ltb, le-ltb, ne_eqb}
use lib.Dec.{eqb, ltb}
use lib.ListN.{length, get_or, drop, length-drop}
use lib.Seq.{get_or-drop, drop-cons}
use Rattle.rules.specs.Bytes.{Operand, widths}
use Rattle.rules.specs.Steps.{pass, refuse}
use Rattle.rules.specs.Writing.{operands_fit, numbers, words, Bytes}
use Rattle.wire.proofs.Front.{contents, first_byte, second_byte, last_bytes}
use Rattle.forms.specs.Slots.{three, step, slot, operands, is_present, Known, slot_limit}
use Rattle.forms.proofs.Slots.{unknown_form, known_form, operands_fit_by}
use Rattle.forms.proofs.Shapes.{Shape, short, middle, long, shape}
use Rattle.listing.specs.Meaning.{earned, step_at}

-- ---- A number where there is one

only_if : (t : Bool) (v : ℕ) → cond (not t) v 0 ≡ cond t 0 v
only_if true v = refl
only_if false v = refl

-- ---- The three numbers by the shape of the operands

module _ (bs : List ℕ) where
  abbrev second_of : List Operand → ℕ
  second_of os = cond (eqb (1 + widths os) 2) 0 (get_or bs 1 0)

  abbrev content_of : ℕ
  content_of = contents (get_or bs 2 0) (get_or bs 3 0) (get_or bs 4 0) (get_or bs 5 0)

  abbrev third_of : List Operand → ℕ
  third_of os = cond (eqb (1 + widths os) 7) content_of 0

  numbers_by : (os : List Operand) → widths os ≤ length bs → Shape os → numbers os bs ≡ three (get_or bs 0 0) (second_of os) (third_of os)
  numbers_by _ fits (short o a) = rw (a, first_byte)
  numbers_by _ fits (middle o p a b) = rw (a, b, first_byte bs, second_byte bs)
  numbers_by _ fits (long o p a b) = rw (a, b, first_byte bs, second_byte bs, last_bytes bs (omega arith))

  -- a content passes as it is
  third_fits : (n m : ℕ) (os : List Operand) → Bytes bs → Shape os → ltb (third_of os) (slot_limit n m (slot os 2)) ≡ true
  third_fits n m _ s (short o a) = rw a
  third_fits n m _ s (middle o p a b) = rw (a, b)
  third_fits n m _ s (long o p a b) = rw (a, b) (lt-ltb content_of 4294967296 (omega (arith, s 2, s 3, s 4, s 5)))

-- ---- What the step at an offset earns

module _ (n m : ℕ) (b : List ℕ) (p : ℕ) (l : p < length b) where
  abbrev c : ℕ
  c = get_or b p 0

  pub step_unknown : is_present (slot (operands c) 0) ≡ false → earned n m (drop p b) ≡ refuse 2
  step_unknown e = rw (drop-cons b p 0 l, unknown_form c e)

  module _ (k : Known c) where
    known : earned n m (drop p b) ≡ cond (ltb (length (drop (suc p) b)) (widths (operands c))) (refuse 3) (cond (operands_fit n m (operands c) (numbers (operands c) (drop (suc p) b))) pass (refuse 4))
    unfolding operands
    known = known_form c k (λ f q. rw (drop-cons b p 0 l, q))

    pub step_cut : length b - p < 1 + widths (operands c) → earned n m (drop p b) ≡ refuse 3
    step_cut h =
        let short : length (drop (suc p) b) < widths (operands c) = rw length-drop (omega arith) in
        rw (known, lt-ltb (length (drop (suc p) b)) (widths (operands c)) short)

    module _ (h : 1 + widths (operands c) ≤ length b - p) where
      within : widths (operands c) ≤ length (drop (suc p) b)
      within = rw length-drop (omega arith)

      -- the first two operands decide
      pub step_judged : Bytes b → (y : ℕ) (f g : Bool) → y ≡ cond (eqb (1 + widths (operands c)) 2) 0 (get_or b (p + 2) 0)
          → f ≡ ltb (get_or b (p + 1) 0) (slot_limit n m (slot (operands c) 0)) && ltb y (slot_limit n m (slot (operands c) 1)) → f ≡ g → earned n m (drop p b) ≡ cond g pass (refuse 4)
      step_judged s y f g ey e q =
          let bs = drop (suc p) b in
          let behind : (i : ℕ) → get_or bs i 0 ≡ get_or b (suc p + i) 0 = λ i. get_or-drop (suc p) b i 0 in
          let one : suc p + 0 ≡ p + 1 = omega arith in
          let two : suc p + 1 ≡ p + 2 = omega arith in
          let bytes : Bytes bs = λ i. rw (behind i) (s (suc p + i)) in
          let third = third_fits bs n m (operands c) bytes (shape c k) in
          known ∙ rw (le-ltb (length bs) (widths (operands c)) within, numbers_by bs (operands c) within (shape c k), operands_fit_by n m (get_or bs 0 0) (second_of bs (operands c)) (third_of bs (operands c)) c, third, and-true, behind 0, behind 1, one, two, ← ey, ← e, q)

-- ---- The step itself

module _ (b : List ℕ) (p : ℕ) (k : Known (get_or b p 0)) (h : p + (1 + widths (operands (get_or b p 0))) ≤ length b) where
  abbrev os : List Operand
  os = operands (get_or b p 0)

  numbers_at : numbers os (drop (suc p) b) ≡ three (get_or (drop (suc p) b) 0 0) (second_of (drop (suc p) b) os) (third_of (drop (suc p) b) os)
  numbers_at =
      let fits : widths os ≤ length (drop (suc p) b) = rw length-drop (omega arith) in
      numbers_by (drop (suc p) b) os fits (shape (get_or b p 0) k)

  pub step_four : length (words (step_at b p ∷ [])) ≡ 4
  unfolding words
  step_four = rw numbers_at

  step_is : (y z : ℕ) → y ≡ cond (eqb (1 + widths os) 2) 0 (get_or b (p + 2) 0)
      → z ≡ cond (eqb (1 + widths os) 7) (contents (get_or b (p + 3) 0) (get_or b (p + 4) 0) (get_or b (p + 5) 0) (get_or b (p + 6) 0)) 0 → step (get_or b p 0) (get_or b (p + 1) 0) y z ≡ step_at b p
  step_is y z ey ez =
      let at : (i j : ℕ) → suc p + i ≡ j → get_or (drop (suc p) b) i 0 ≡ get_or b j 0 = λ i j e. get_or-drop (suc p) b i 0 ∙ rw e in
      rw (numbers_at, at 0 (p + 1) (omega arith), at 1 (p + 2) (omega arith), at 2 (p + 3) (omega arith), at 3 (p + 4) (omega arith), at 4 (p + 5) (omega arith), at 5 (p + 6) (omega arith), ey, ez)

  pub step_whole : (y z : ℕ) → y ≡ cond (not (eqb (1 + widths os) 2)) (get_or b (p + 2) 0) 0
      → z ≡ cond (eqb (1 + widths os) 7) (contents (get_or b (p + 3) 0) (get_or b (p + 4) 0) (get_or b (p + 5) 0) (get_or b (p + 6) 0)) 0 → step (get_or b p 0) (get_or b (p + 1) 0) y z ≡ step_at b p
  step_whole y z ey ez = step_is y z (ey ∙ only_if (eqb (1 + widths os) 2) (get_or b (p + 2) 0)) ez

  -- with fewer bytes left than the longest step has there is no content
  pub step_last : (y : ℕ) → y ≡ cond (eqb (1 + widths os) 2) 0 (get_or b (p + 2) 0) → length b - p < 7 → step (get_or b p 0) (get_or b (p + 1) 0) y 0 ≡ step_at b p
  step_last y ey l = step_is y 0 ey (rw (ne_eqb (1 + widths os) 7 (λ e. omega arith)))
