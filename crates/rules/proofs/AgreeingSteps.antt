-- Writing and run agree on 2 and 4, step by step, by the table of commands; what is written are bytes, of which reading and run agree.
use Prim.Native.Nat.{ℕ, zero, suc, ◌/◌, ◌%◌, ◌^◌, ◌<◌}
use mathlib.Core.Path.{◌≡◌, refl, sym}
use mathlib.Core.Bool.{true, ◌&&◌, cond}
use mathlib.Core.List.{List, [], ◌∷◌, ◌++◌}
use mathlib.Core.Option.{Option, none, some}
use native.Mathlib.Omega.{arith}
use lib.Dec.{eqb, ltb}
use lib.ListN.{length, get_or, drop, get_or-eq_default}
use borrow.Author.Tests.{lt-leb, eqb-true}
use Rattle.rules.specs.Bytes.{in_range, Operand, width, Form, form_of, commands}
use Rattle.rules.specs.State.{State}
use Rattle.rules.specs.Steps.{Test, tests, first_failed, Checked, pass, refuse}
use Rattle.rules.specs.Writing.{Heading, Instruction, header_of, slots, zeros, operands_fit, heading_fits, form, check_by, steps_refusal, in_bytes, operand_bytes, operands_in, step_bytes, steps_bytes, bytes, write, Bytes}
use Rattle.rules.specs.Agreeing.{run_check, up_to_four, in_widths, whole_step, WritesAsRun, WrittenRuns}
use Rattle.rules.proofs.Table.{bool, below?, and_l, and_r}
use Rattle.rules.proofs.Demand3.{owners_below}
use Rattle.rules.proofs.Writing.{in_table, number_found, first_passes, ranged, write_inverts, written_read}
use Rattle.rules.proofs.Agreeing.{late, late_fails, fours, fours_first, always_agrees}

-- ---- One step

-- of a list of tests those up to 4 decide
by_tests : (gs : List Test) → fours_first gs ≡ true → up_to_four (first_failed gs) ≡ cond (late gs) pass (refuse 4)
by_tests gs f = bool (late gs) (λ l. rw l (go (first_failed gs) refl l)) (λ l. rw (l, fours gs f l))
  where
    go : (x : Checked) → first_failed gs ≡ x → late gs ≡ true → up_to_four x ≡ pass
    go pass e l = refl
    go (refuse n) e l = rw (lt-leb n 4 (late_fails gs n l e))

-- a step has three numbers
three : (P : List ℕ → Type 0) → ((x y z : ℕ) → P (x ∷ y ∷ z ∷ [])) → (vs : List ℕ) → length vs ≡ 3 → P vs
three P f [] e = absurd (omega arith)
three P f (x ∷ []) e = absurd (omega arith)
three P f (x ∷ y ∷ []) e = absurd (omega arith)
three P f (x ∷ y ∷ z ∷ []) e = f x y z
three P f (x ∷ y ∷ z ∷ u ∷ vs) e = absurd (omega arith)

module _ (s : State) where
  -- what writing asks of the operands is what the command's tests up to 4 ask
  abbrev Asks : Form → List ℕ → Type 0
  Asks f vs = in_widths f.operands vs ≡ true
      → (operands_fit s.header.nodes s.header.sheets f.operands vs ≡ late (tests s (f.command vs))) × (fours_first (tests s (f.command vs)) ≡ true)

  abbrev AsksThree : Form → Type 0
  AsksThree f = (x y z : ℕ) → Asks f (x ∷ y ∷ z ∷ [])

  asks : (b : ℕ) (f : Form) → form_of b commands ≡ some f → AsksThree f
  asks b f e = in_table AsksThree commands (
    λ x y z h. (rw (one x y z h), refl),
    (
      λ x y z h. (rw (two x y z h), refl),
      (
        λ x y z h. (rw (content_fits x y z h), refl),
        (
          λ x y z h. (rw (one x y z h), refl),
          (
            λ x y z h. (rw (one x y z h), refl),
            (
              λ x y z h. (rw (one x y z h), refl),
              (
                λ x y z h. (rw (two x y z h), refl),
                (λ x y z h. (rw (one x y z h), refl), tt),
              ),
            ),
          ),
        ),
      ),
    ),
  ) b f e
    where
      one : (x y z : ℕ) → ltb x (256 ^ 1) && zeros (y ∷ z ∷ []) ≡ true → zeros (y ∷ z ∷ []) ≡ true
      one x y z h = and_r (ltb x (256 ^ 1)) (zeros (y ∷ z ∷ [])) h

      two : (x y z : ℕ) → ltb x (256 ^ 1) && (ltb y (256 ^ 1) && zeros (z ∷ [])) ≡ true → zeros (z ∷ []) ≡ true
      two x y z h = and_r (ltb y (256 ^ 1)) (zeros (z ∷ [])) (and_r (ltb x (256 ^ 1)) (ltb y (256 ^ 1) && zeros (z ∷ [])) h)

      content_fits : (x y z : ℕ) → ltb x (256 ^ 1) && (ltb y (256 ^ 1) && (ltb z (256 ^ 4) && true)) ≡ true → ltb z (256 ^ 4) ≡ true
      content_fits x y z h = and_l (ltb z (256 ^ 4)) true (and_r (ltb y (256 ^ 1)) (ltb z (256 ^ 4) && true) (and_r (ltb x (256 ^ 1)) (ltb y (256 ^ 1) && (ltb z (256 ^ 4) && true)) h))

  as_run : (b : ℕ) (o : Option Form) → form_of b commands ≡ o → (vs : List ℕ) → whole_step o vs ≡ true → check_by s.header.nodes s.header.sheets o vs ≡ up_to_four (run_check s o vs)
  as_run b none e vs h = refl
  as_run b (some f) e vs h =
      let l = eqb (length vs) slots in
      let w = in_widths f.operands vs in
      let a = three (Asks f) (asks b f e) vs (eqb-true (length vs) slots (and_l l w h)) (and_r l w h) in
      rw a.0 (sym (by_tests (tests s (f.command vs)) a.1))

pub writes_as_run : WritesAsRun
unfolding form
writes_as_run s i h = as_run s i.number (form_of i.number commands) refl i.operands h

-- ---- What is written are bytes

low : (x : ℕ) → x % 256 < 256
low x = omega arith

bytes_cons : (x : ℕ) (l : List ℕ) → x < 256 → Bytes l → Bytes (x ∷ l)
bytes_cons x l h k zero = h
bytes_cons x l h k (suc i) = k i

bytes_append : (a l : List ℕ) → Bytes a → Bytes l → Bytes (a ++ l)
bytes_append [] l h k = k
bytes_append (x ∷ a) l h k = bytes_cons x (a ++ l) (h 0) (bytes_append a l (λ i. h (suc i)) k)

number_bytes : (n v : ℕ) → Bytes (in_bytes n v)
unfolding in_bytes
number_bytes zero v = λ i. omega arith
number_bytes (suc n) v = bytes_cons (v / 256 ^ n % 256) (in_bytes n v) (low (v / 256 ^ n)) (number_bytes n v)

operands_bytes : (os : List Operand) (vs : List ℕ) → Bytes (operand_bytes os vs)
unfolding operand_bytes
operands_bytes [] vs = λ i. omega arith
operands_bytes (o ∷ os) vs = bytes_append (in_bytes (width o) (get_or vs 0 0)) (operand_bytes os (drop 1 vs)) (number_bytes (width o) (get_or vs 0 0)) (operands_bytes os (drop 1 vs))

command_byte : (b : ℕ) (f : Form) → form b ≡ some f → b < 256
unfolding form
command_byte b f e = rw (← number_found b commands f e) (in_table (λ f. f.number < 256) commands (search arith) b f e)

list_bytes : (n m q : ℕ) (is : List Instruction) → steps_refusal n m q is ≡ none → Bytes (steps_bytes is)
unfolding steps_bytes
list_bytes n m q [] e = λ i. omega arith
list_bytes n m q (i ∷ is) e = first_passes n m q i is e (λ f a _ rest.
    bytes_append (step_bytes i) (steps_bytes is)
    (bytes_cons i.number (operand_bytes (operands_in (form i.number)) i.operands) (command_byte i.number f a) (operands_bytes (operands_in (form i.number)) i.operands))
    (list_bytes n m (suc q) is rest))

owner_bytes : (g : Heading) → heading_fits g ≡ true → Bytes g.owners
owner_bytes g e i =
    let l = eqb (length g.owners) g.sheets in
    let r = and_r l (in_range (header_of g)) e in
    let n = eqb-true (length g.owners) g.sheets (and_l l (in_range (header_of g)) e) in
    below? i (length g.owners)
    (λ h. omega (arith, owners_below (header_of g) r i (omega arith), (ranged (header_of g) r).nodes))
    (λ h. rw (get_or-eq_default g.owners 0 h) (omega arith))

pub written_bytes : (g : Heading) (is : List Instruction) (b : List ℕ) → write g is ≡ bytes b → Bytes b
written_bytes g is b e = write_inverts g is b e (λ fits pass _ same.
    let c = ranged (header_of g) (and_r (eqb (length g.owners) g.sheets) (in_range (header_of g)) fits) in
    rw (← same)
    (bytes_cons g.nodes (g.sheets ∷ (g.owners ++ steps_bytes is)) (omega (arith, c.nodes))
    (bytes_cons g.sheets (g.owners ++ steps_bytes is) (omega (arith, c.sheets))
    (bytes_append g.owners (steps_bytes is) (owner_bytes g fits) (list_bytes g.nodes g.sheets 0 is pass)))))

pub written_runs : (g : Heading) (is : List Instruction) → WrittenRuns g is
written_runs g is b e = (always_agrees b (written_bytes g is b e)).none_of_them g is (written_read g is b e)
