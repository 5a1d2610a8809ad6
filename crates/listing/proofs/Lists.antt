-- The steps of a session's bytes, one after the other.
use Prim.Native.Nat.{ℕ, suc, ◌+◌, ◌≤◌, ◌<◌}
use mathlib.Core.Path.{◌≡◌, refl, sym, ap, ◌∙◌}
use mathlib.Core.Bool.{true, false}
use mathlib.Core.List.{List, [], ◌∷◌, ◌++◌, append-nil, append_assoc}
use mathlib.Core.Option.{Option, none, some}
use native.Mathlib.Omega.{arith}
use borrow.Author.Tests.{ltb-false}
use lib.Dec.{ltb}
use lib.ListN.{length, get_or, drop, length-drop, length-append, drop_of_length-le}
use lib.Seq.{drop-cons, drop-drop}
use Rattle.std.specs.Prelude.{Ok}
use Rattle.rules.specs.Bytes.{Form, widths}
use Rattle.rules.specs.Steps.{pass, refuse}
use Rattle.rules.specs.Writing.{Instruction, Listing, steps, stops, at, also, form, operands_fit, numbers, list_by, list_from}
use Rattle.rules.proofs.Table.{bool}
use Rattle.rules.proofs.Writing.{list_skip}
use Rattle.forms.specs.Slots.{operands, Known}
use Rattle.forms.proofs.Slots.{form_known}
use Rattle.listing.specs.Meaning.{earned_by, earned, step_at, from, Counts}

-- ---- One step

-- bytes that pass begin with a step of the table, whole and in range
earned_none : {P : Type 0} (n m : ℕ) (o : Option Form) (bs : List ℕ) → earned_by n m o bs ≡ pass
    → ((f : Form) → o ≡ some f → ltb (length bs) (widths f.operands) ≡ false → operands_fit n m f.operands (numbers f.operands bs) ≡ true → P) → P
earned_none n m none bs e on = cc
earned_none n m (some f) bs e on =
    bool (ltb (length bs) (widths f.operands))
    (λ t. let z : refuse 3 ≡ pass = rw t at e in cc)
    (λ t. bool (operands_fit n m f.operands (numbers f.operands bs))
    (λ u. on f refl t u)
    (λ u. let z : refuse 4 ≡ pass = rw (t, u) at e in cc))

earned_some : (n m c p : ℕ) (o : Option Form) (bs : List ℕ) (next : ℕ → Listing) (e : ℕ) → earned_by n m o bs ≡ refuse e → list_by n m c p o bs next ≡ stops (at p e)
earned_some n m c p none bs next e q = let z : 2 ≡ e = cc in rw z
earned_some n m c p (some f) bs next e q =
    bool (ltb (length bs) (widths f.operands))
    (λ t. let y : refuse 3 ≡ refuse e = rw t at q in let z : 3 ≡ e = cc in rw (t, z))
    (λ t. bool (operands_fit n m f.operands (numbers f.operands bs))
    (λ u. let z : pass ≡ refuse e = rw (t, u) at q in cc)
    (λ u. let y : refuse 4 ≡ refuse e = rw (t, u) at q in let z : 4 ≡ e = cc in rw (t, u, z)))

module _ (n m : ℕ) (b : List ℕ) (p : ℕ) (l : p < length b) where
  pub step_refused : (e : ℕ) → earned n m (drop p b) ≡ refuse e → from n m p b ≡ stops (at p e)
  unfolding list_from
  step_refused e q =
      let x = drop-cons b p 0 l in
      rw x (earned_some n m (get_or b p 0) p (form (get_or b p 0)) (drop (suc p) b) (λ w. list_from n m w (suc p) (drop (suc p) b)) e (rw x at q))

  module _ (z : earned n m (drop p b) ≡ pass) where
    pub next_known : Known (get_or b p 0)
    next_known =
        earned_none n m (form (get_or b p 0)) (drop (suc p) b) (rw (drop-cons b p 0 l) at z) (λ f q long fit. form_known (get_or b p 0) f q)

    pub next_fits : p + (1 + widths (operands (get_or b p 0))) ≤ length b
    unfolding operands
    next_fits =
        earned_none n m (form (get_or b p 0)) (drop (suc p) b) (rw (drop-cons b p 0 l) at z) (λ f q long fit.
        let fits = ltb-false (length (drop (suc p) b)) (widths f.operands) long in
        rw q (omega (arith, length-drop (suc p) b)))

    pub next_list : from n m p b ≡ also (step_at b p) (from n m (p + (1 + widths (operands (get_or b p 0)))) b)
    unfolding operands list_from
    next_list =
        earned_none n m (form (get_or b p 0)) (drop (suc p) b) (rw (drop-cons b p 0 l) at z) (λ f q long fit.
        let w = widths f.operands in
        let j : p + (1 + w) ≡ suc p + w = omega arith in
        rw (drop-cons b p 0 l, q, long, fit, list_skip n m w (suc p) (drop (suc p) b), drop-drop w (suc p) b, j))

-- ---- Steps before others

abbrev pub onto : List Instruction → Listing → Listing
onto xs (steps is) = steps (xs ++ is)
onto xs (stops r) = stops r

pub onto_none : (l : Listing) → l ≡ onto [] l
onto_none (steps is) = refl
onto_none (stops r) = refl

pub onto_also : (xs : List Instruction) (i : Instruction) (l : Listing) → onto xs (also i l) ≡ onto (xs ++ i ∷ []) l
onto_also xs i (steps is) = ap steps (sym (append_assoc xs (i ∷ []) is))
onto_also xs i (stops r) = refl

-- the steps before offset p passed
pub record Passed (n m : ℕ) (b : List ℕ) (start p q : ℕ) : Type 0 where
  pub within : p ≤ length b
  pub few : q ≤ p
  pub so_far : List Instruction
  pub count : length so_far ≡ q
  pub list : from n m start b ≡ onto so_far (from n m p b)

abbrev pub passed_none : (n m : ℕ) (b : List ℕ) (start : ℕ) → start ≤ length b → Passed n m b start start 0
passed_none n m b start h = record { within = h; few = omega arith; so_far = []; count = refl; list = onto_none (from n m start b) }

module _ {n m : ℕ} {b : List ℕ} {start p q : ℕ} (s : Passed n m b start p q) where
  module _ (l : p < length b) where
    abbrev pub passed_next : (w : ℕ) → earned n m (drop p b) ≡ pass → w ≡ 1 + widths (operands (get_or b p 0)) → Passed n m b start (p + w) (q + 1)
    passed_next w z e =
        record {
          within = rw e (next_fits n m b p l z);
          few = omega (arith, s.few);
          so_far = s.so_far ++ step_at b p ∷ [];
          count = length-append s.so_far (step_at b p ∷ []) ∙ rw s.count;
          list = s.list ∙ rw (next_list n m b p l z, ← e) (onto_also s.so_far (step_at b p) (from n m (p + w) b));
        }

    pub passed_refused : (e : ℕ) → earned n m (drop p b) ≡ refuse e → from n m start b ≡ stops (at p e)
    passed_refused e z = s.list ∙ rw (step_refused n m b p l e z)

  -- behind the last step
  pub passed_whole : length b ≤ p → from n m start b ≡ steps s.so_far
  unfolding list_from
  passed_whole l = s.list ∙ rw (drop_of_length-le b l, append-nil)

  pub passed_all : length b ≤ p → Counts (from n m start b) (Ok q)
  passed_all l = (s.so_far, (passed_whole l, sym s.count))
