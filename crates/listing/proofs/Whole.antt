-- The call's answers.
use Prim.Native.Nat.{ℕ, zero, suc, ◌+◌, ◌*◌, ◌/◌, ◌≤◌, ◌<◌}
use mathlib.Core.Path.{◌≡◌, sym, ap, ◌∙◌}
use mathlib.Core.Bool.{false}
use mathlib.Core.List.{List, [], ◌∷◌, ◌++◌}
use native.Mathlib.Omega.{arith}
use borrow.Author.Tests.{lt-ltb, le-ltb, eqb-true}
use lib.Dec.{eqb}
use lib.ListN.{length, drop, length-append}
use Rattle.std.specs.Prelude.{Ok, Err}
use Rattle.refusals.specs.declared.Refused.{Refused}
use Rattle.wire.specs.Refusing.{refused_at}
use Rattle.rules.specs.Sizes.{max_session}
use Rattle.rules.specs.Bytes.{opens, widths}
use Rattle.rules.specs.Report.{Filled}
use Rattle.rules.specs.Writing.{Instruction, slots, at, form, below_limits, numbers, heading, steps, list_from, listed_by, Listed, session, read, words, refuse_with, listed, Call, read_into, read_call}
use Rattle.rules.proofs.Table.{and_l}
use Rattle.rules.proofs.Writing.{list_inverts}
use Rattle.wire.proofs.Headers.{opens_has}
use Rattle.wire.proofs.Opening.{Opening}
use Rattle.forms.specs.Columns.{Ranged}
use Rattle.text.specs.Wrote.{Wrote}
use Rattle.text.proofs.Writing.{wrote_front}
use Rattle.listing.specs.Meaning.{from, Counts, Fits, Stored}

-- ---- Lists that are read

-- four words to a step
list_words : (n m w p : ℕ) (bs : List ℕ) (is : List Instruction) → list_from n m w p bs ≡ steps is → length (words is) ≡ 4 * length is
unfolding list_from words
list_words n m w p [] is e = let z : is ≡ [] = cc in rw z
list_words n m (suc w) p (b ∷ bs) is e = list_words n m w (suc p) bs is e
list_words n m zero p (b ∷ bs) is e =
    list_inverts n m b p (form b) bs (λ w. list_from n m w (suc p) bs) e (λ f q long fit js on z.
    let vs = numbers f.operands bs in
    let three = eqb-true (length vs) slots (and_l (eqb (length vs) slots) (below_limits n m f.operands vs) fit) in
    let rest = list_words n m (widths f.operands) (suc p) bs js on in
    rw z (omega (arith, length-append vs (words js))))

-- the bytes give one list, whatever the limits were that it passed
list_same : (n m n' m' w p p' : ℕ) (bs : List ℕ) (is js : List Instruction) → list_from n m w p bs ≡ steps is → list_from n' m' w p' bs ≡ steps js → is ≡ js
unfolding list_from
list_same n m n' m' w p p' [] is js e d = cc
list_same n m n' m' (suc w) p p' (b ∷ bs) is js e d = list_same n m n' m' w (suc p) (suc p') bs is js e d
list_same n m n' m' zero p p' (b ∷ bs) is js e d =
    list_inverts n m b p (form b) bs (λ w. list_from n m w (suc p) bs) e (λ f q long fit ks on z.
    list_inverts n' m' b p' (form b) bs (λ w. list_from n' m' w (suc p') bs) d (λ g r long' fit' ls on' z'.
    let same : f ≡ g = cc in
    let on'' : list_from n' m' (widths f.operands) (suc p') bs ≡ steps ls = rw (← same) at on' in
    let rest = list_same n m n' m' (widths f.operands) (suc p) (suc p') bs ks ls on on'' in
    rw (z, z', same, rest)))

-- ---- The answers

module _ (b room : List ℕ) where
  abbrev answers : Call → Type 0
  answers c = c ≡ read_call b room

  pub header_refused : opens b ≡ false → answers (record { outcome = refuse_with (at 0 1); room = room })
  unfolding read_call read
  header_refused e = rw e

  module _ (n m : ℕ) (o : Opening b n m) where
    reads : read b ≡ listed_by (heading b) (from n m (2 + m) b)
    unfolding read
    reads = rw (o.opened_well, o.nodes_are, o.sheets_are)

    pub step_refused : (r : Refused) → Counts (from n m (2 + m) b) (Err r) → answers (record { outcome = refuse_with (refused_at r); room = room })
    unfolding read_call
    step_refused r z = rw (reads, z)

    module _ (q : ℕ) (counted : Counts (from n m (2 + m) b) (Ok q)) where
      abbrev is : List Instruction
      is = counted.0

      four : length (words is) ≡ 4 * q
      four = omega (arith, list_words n m 0 (2 + m) (drop (2 + m) b) is counted.1.0, counted.1.1)

      into : read_call b room ≡ read_into (session (heading b) is) room
      unfolding read_call
      into = ap (λ (l : Listed). read_into l room) reads ∙ rw counted.1.0

      pub no_room : length room / 4 < q → answers (record { outcome = refuse_with (at q 15); room = room })
      no_room h =
          let short : length room < length (words is) = omega (arith, four) in
          sym (into ∙ rw (lt-ltb (length room) (length (words is)) short, ← counted.1.1))

      pub fits : q ≤ length room / 4 → Fits (2 + m) b (length room)
      fits h = (n, (m, (is, (counted.1.0, omega (arith, counted.1.1)))))

      pub stored : {i : ℕ} {after : List ℕ} → q ≤ length room / 4 → Stored (2 + m) b room i after → answers (record { outcome = listed n m q; room = after })
      stored {i} {after} h s =
          let same = list_same s.0 s.1.0 n m 0 (2 + m) (2 + m) (drop (2 + m) b) s.1.1.0 is s.1.1.1.0 counted.1.0 in
          let w : Wrote room 0 (words is) (4 * length is) i after = rw same at s.1.1.1.1 in
          let text : after ≡ words is ++ drop (length (words is)) room = ap (λ (x : Filled). x.buffer) (wrote_front w (omega (arith, counted.1.1))) in
          let long : length (words is) ≤ length room = omega (arith, four) in
          sym (into ∙ rw (le-ltb (length room) (length (words is)) long, ← counted.1.1, ← text, ← o.nodes_are, ← o.sheets_are))

-- no session has more bytes
pub bytes_fit : (b : List ℕ) (n m : ℕ) → Opening b n m → length b ≤ max_session
bytes_fit b n m o = (opens_has b o.opened_well).0.size

-- its counts are in range
pub counts_fit : (b : List ℕ) (n m : ℕ) → Opening b n m → Ranged n m
counts_fit b n m o =
    let h = (opens_has b o.opened_well).0 in
    ((omega arith, omega arith), (omega arith, omega arith))
