-- Steps that pass, stored one after the other.
use Prim.Native.Nat.{ℕ, suc, ◌+◌, ◌*◌, ◌≤◌, ◌<◌}
use mathlib.Core.Path.{◌≡◌, refl, sym, ap, ◌∙◌}
use mathlib.Core.List.{List, [], ◌∷◌, ◌++◌, append_assoc}
use native.Mathlib.Omega.{arith}
use borrow.Author.Tests.{le-ltb}
use lib.ListN.{length, get_or, drop, length-append}
use lib.Seq.{drop-cons}
use Rattle.rules.specs.Bytes.{widths}
use Rattle.rules.specs.Steps.{pass}
use Rattle.rules.specs.Writing.{Instruction, Listing, steps, stops, form, list_from, words}
use Rattle.rules.proofs.Writing.{list_inverts}
use Rattle.forms.specs.Slots.{operands, Known}
use Rattle.text.specs.Wrote.{Wrote}
use Rattle.text.proofs.Writing.{wrote_none, wrote_as, wrote_then, wrote_length}
use Rattle.listing.specs.Meaning.{earned, step_at, from, Fits, Stored}
use Rattle.listing.proofs.Operands.{step_four}
use Rattle.listing.proofs.Lists.{onto, Passed, passed_none, passed_next, passed_whole, next_known, next_fits}

words_append : (xs ys : List Instruction) → words (xs ++ ys) ≡ words xs ++ words ys
unfolding words
words_append [] ys = refl
words_append (x ∷ xs) ys = rw (words_append xs ys) (ap (λ (l : List ℕ). x.number ∷ l) (sym (append_assoc x.operands (words xs) (words ys))))

-- a step of a list that is read passes
passes_here : (n m : ℕ) (b : List ℕ) (p : ℕ) (js : List Instruction) → p < length b → from n m p b ≡ steps js → (earned n m (drop p b) ≡ pass) × (1 ≤ length js)
unfolding list_from
passes_here n m b p js l e =
    let x = drop-cons b p 0 l in
    let bs = drop (suc p) b in
    list_inverts n m (get_or b p 0) p (form (get_or b p 0)) bs (λ w. list_from n m w (suc p) bs) (rw x at e) (λ f q long fit ks on z.
    (rw (x, q, le-ltb (length bs) (widths f.operands) long, fit), rw z (omega arith)))

onto_inverts : {P : Type 0} (xs : List Instruction) (l : Listing) (is : List Instruction) → steps is ≡ onto xs l → ((js : List Instruction) → l ≡ steps js → is ≡ xs ++ js → P) → P
onto_inverts xs (steps js) is e on = on js refl (cc)
onto_inverts xs (stops r) is e on = absurd (let z : ◌≡◌ {A = ℕ} 0 1 = cc in omega arith)

-- the steps before offset p stand in the first i words
pub record Storing (b before : List ℕ) (start p i : ℕ) (after : List ℕ) : Type 0 where
  pub n : ℕ
  pub m : ℕ
  pub is : List Instruction
  pub all : from n m start b ≡ steps is
  pub room : 4 * length is ≤ length before
  pub q : ℕ
  pub passed : Passed n m b start p q
  pub index : i ≡ 4 * q
  pub wrote : Wrote before 0 (words passed.so_far) i i after

pub storing_none : (b before : List ℕ) (start : ℕ) → start ≤ length b → Fits start b (length before) → Storing b before start start 0 before
unfolding words
storing_none b before start h f =
    record { n = f.0; m = f.1.0; is = f.1.1.0; all = f.1.1.1.0; room = f.1.1.1.1; q = 0; passed = passed_none f.0 f.1.0 b start h; index = refl; wrote = wrote_none before 0 }

module _ {b before : List ℕ} {start p i : ℕ} {after : List ℕ} (s : Storing b before start p i after) where
  pub storing_length : length after ≡ length before
  storing_length = wrote_length s.wrote

  module _ (l : p < length b) where
    ahead : (earned s.n s.m (drop p b) ≡ pass) × (s.q + 1 ≤ length s.is)
    ahead =
        onto_inverts s.passed.so_far (from s.n s.m p b) s.is (sym s.all ∙ s.passed.list) (λ js e z.
        let here = passes_here s.n s.m b p js l e in
        (here.0, rw z (omega (arith, length-append s.passed.so_far js, s.passed.count, here.1))))

    pub storing_room : i + 4 ≤ length after
    storing_room = omega (arith, ahead.1, s.index, s.room, storing_length)

    pub storing_known : Known (get_or b p 0)
    storing_known = next_known s.n s.m b p l ahead.0

    pub storing_fits : p + (1 + widths (operands (get_or b p 0))) ≤ length b
    storing_fits = next_fits s.n s.m b p l ahead.0

    pub storing_next : (w : ℕ) {j : ℕ} {next : List ℕ} → w ≡ 1 + widths (operands (get_or b p 0)) → Wrote after i (words (step_at b p ∷ [])) 4 j next → Storing b before start (p + w) j next
    storing_next w {j} {next} e t =
        let all = wrote_then s.wrote t in
        let text = sym (words_append s.passed.so_far (step_at b p ∷ [])) in
        let four = step_four b p storing_known storing_fits in
        record {
          n = s.n;
          m = s.m;
          is = s.is;
          all = s.all;
          room = s.room;
          q = s.q + 1;
          passed = passed_next s.passed l w ahead.0 e;
          index = omega (arith, t.ends, s.index);
          wrote = wrote_as text (omega (arith, ap length text, all.ends)) all;
        }

  pub storing_all : length b ≤ p → Stored start b before i after
  storing_all l =
      let whole = passed_whole s.passed l in
      (s.n, (s.m, (s.passed.so_far, (whole, wrote_as refl (omega (arith, s.wrote.ends, s.index, s.passed.count)) s.wrote))))
