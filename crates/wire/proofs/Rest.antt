-- How a session's reading goes on, by what stands at the front of the rest: the laws of a loop over the bytes.
use mathlib.Core.Path.{◌≡◌, refl, ap}
use mathlib.Core.List.{List, [], ◌∷◌}
use mathlib.Core.Option.{Option, none, some}
use Prim.Native.Nat.{ℕ, suc, ◌+◌, ◌-◌, ◌≤◌}
use native.Mathlib.Numerals.{add-one}
use native.Mathlib.Omega.{arith}
use borrow.Author.Tests.{ltb-false}
use lib.Dec.{ltb}
use lib.ListN.{length, drop, length-drop}
use lib.Seq.{drop-drop}
use Rattle.rules.specs.Bytes.{Command, Form, Front, unknown, cut, whole, widths, values, front_by, front, form_of, commands, ended, stopped, more, read_from}
use Rattle.rules.proofs.Table.{bool}
use Rattle.rules.proofs.Writing.{in_table}
use Rattle.rules.proofs.Answers.{skip}
use Rattle.wire.specs.Meaning.{front_in, shown_in}

-- a whole command has its operands
abbrev Within : ℕ → Front → Type 0
Within n unknown = Unit {0}
Within n cut = Unit {0}
Within n (whole c w) = w ≤ n

within_by : (o : Option Form) (bs : List ℕ) → Within (length bs) (front_by o bs)
within_by none bs = tt
within_by (some f) bs =
    bool (ltb (length bs) (widths f.operands)) (λ e. rw e tt) (λ e. rw e (ltb-false _ _ e))

-- ---- A list at offset p

module _ (p : ℕ) where
  list_end : (l : List ℕ) → front_in l ≡ none → read_from 0 p l ≡ record { steps = []; stop = ended }
  unfolding read_from
  list_end [] e = refl
  list_end (b ∷ bs) e = absurd (let z : ◌≡◌ {A = ℕ} 0 1 = cc in omega arith)

  list_unknown : (l : List ℕ) → front_in l ≡ some unknown → read_from 0 p l ≡ record { steps = []; stop = stopped p 2 1 }
  unfolding read_from
  list_unknown [] e = absurd (let z : ◌≡◌ {A = ℕ} 0 1 = cc in omega arith)
  list_unknown (b ∷ bs) e = let f : front b bs ≡ unknown = cc in rw f

  list_cut : (l : List ℕ) → front_in l ≡ some cut → read_from 0 p l ≡ record { steps = []; stop = stopped p 3 (length l) }
  unfolding read_from
  list_cut [] e = absurd (let z : ◌≡◌ {A = ℕ} 0 1 = cc in omega arith)
  list_cut (b ∷ bs) e = let f : front b bs ≡ cut = cc in rw f

  module _ (c : Command) (w : ℕ) where
    list_step : (l : List ℕ) → front_in l ≡ some (whole c w) → read_from 0 p l ≡ more (record { offset = p; size = suc w; command = c }) (read_from 0 (p + 1 + w) (drop (suc w) l))
    unfolding read_from
    list_step [] e = absurd (let z : ◌≡◌ {A = ℕ} 0 1 = cc in omega arith)
    list_step (b ∷ bs) e =
        let f : front b bs ≡ whole c w = cc in
        rw (f, add-one p) (ap (more (record { offset = p; size = suc w; command = c })) (skip w (suc p) bs))

list_fits : (c : Command) (w : ℕ) (l : List ℕ) → front_in l ≡ some (whole c w) → 1 + w ≤ length l
list_fits c w [] e = absurd (let z : ◌≡◌ {A = ℕ} 0 1 = cc in omega arith)
list_fits c w (b ∷ bs) e =
    let f : front b bs ≡ whole c w = cc in
    let h : w ≤ length bs = rw f at (within_by (form_of b commands) bs) in
    omega arith

-- no more is shown than is left
pub shown_few : (l : List ℕ) → shown_in (front_in l) (length l) ≤ length l
shown_few [] = omega arith
shown_few (b ∷ bs) = by (front b bs) refl
  where
    by : (f : Front) → front b bs ≡ f → shown_in (some f) (suc (length bs)) ≤ suc (length bs)
    by unknown e = omega arith
    by cut e = omega arith
    by (whole c w) e = let z = list_fits c w (b ∷ bs) (ap some e) in omega arith

-- ---- Session b at offset p

module _ (b : List ℕ) (p : ℕ) where
  pub at_end : front_in (drop p b) ≡ none → read_from 0 p (drop p b) ≡ record { steps = []; stop = ended }
  at_end e = list_end p (drop p b) e

  pub at_unknown : front_in (drop p b) ≡ some unknown → read_from 0 p (drop p b) ≡ record { steps = []; stop = stopped p 2 1 }
  at_unknown e = list_unknown p (drop p b) e

  pub at_cut : front_in (drop p b) ≡ some cut → read_from 0 p (drop p b) ≡ record { steps = []; stop = stopped p 3 (length b - p) }
  at_cut e = rw (← length-drop p b) (list_cut p (drop p b) e)

  module _ (c : Command) (w : ℕ) (e : front_in (drop p b) ≡ some (whole c w)) where
    pub at_step : read_from 0 p (drop p b) ≡ more (record { offset = p; size = suc w; command = c }) (read_from 0 (p + 1 + w) (drop (p + 1 + w) b))
    at_step =
        let j : p + suc w ≡ p + 1 + w = omega arith in
        rw (← j, ← drop-drop (suc w) p b, j) (list_step p c w (drop p b) e)

    pub step_fits : p + 1 + w ≤ length b
    step_fits =
        let h = list_fits c w (drop p b) e in
        omega (arith, length-drop p b)

-- every command has an operand
some_operands : (b : ℕ) (f : Form) → form_of b commands ≡ some f → 1 ≤ widths f.operands
some_operands b f e = in_table (λ f. 1 ≤ widths f.operands) commands (search arith) b f e

pub has_operands : (b : List ℕ) (p : ℕ) (c : Command) (w : ℕ) → front_in (drop p b) ≡ some (whole c w) → 1 ≤ w
has_operands b p c w e = go (drop p b) e
  where
    by_form : (o : Option Form) → ((f : Form) → o ≡ some f → 1 ≤ widths f.operands) → (bs : List ℕ) → front_by o bs ≡ whole c w → 1 ≤ w
    by_form none h bs q = absurd (let z : ◌≡◌ {A = ℕ} 0 1 = cc in omega arith)
    by_form (some f) h bs q = bool (ltb (length bs) (widths f.operands))
        (λ y. let r : cut ≡ whole c w = rw y at q in absurd (let z : ◌≡◌ {A = ℕ} 0 1 = cc in omega arith))
        (λ y. let r : whole (f.command (values f.operands bs)) (widths f.operands) ≡ whole c w = rw y at q in let z : widths f.operands ≡ w = cc in rw (← z) (h f refl))

    go : (l : List ℕ) → front_in l ≡ some (whole c w) → 1 ≤ w
    go [] q = absurd (let z : ◌≡◌ {A = ℕ} 0 1 = cc in omega arith)
    go (x ∷ bs) q = let f : front x bs ≡ whole c w = cc in by_form (form_of x commands) (some_operands x) bs f
