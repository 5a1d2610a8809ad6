-- READ and WRITE: their first tests by the number that these give, and what they store as their rules' effect.
use Prim.Native.Nat.{ℕ, ◌+◌, ◌*◌, ◌<◌}
use mathlib.Core.Path.{◌≡◌, refl, sym, ◌∙◌}
use mathlib.Core.Bool.{Bool, true, false, not, ◌&&◌, ◌||◌, or-true, cond}
use mathlib.Core.Logic.{◌≢◌}
use mathlib.Core.List.{List}
use native.Mathlib.Omega.{arith}
use lib.ListN.{get_or, set}
use lib.Dec.{eqb, ltb}
use borrow.Author.Tests.{ltb-true, lt-ltb, ne_eqb}
use Rattle.rules.specs.Bytes.{Read, Write}
use Rattle.rules.specs.State.{Sheet, Mark, absent, copied, written, Tally, State, is_unused, running, over, has_copy}
use Rattle.rules.specs.Steps.{at_front, x_on, Checked, pass, refuse, check, read_mark, read_copy}
use Rattle.rules.proofs.Table.{bool, clash}
use Rattle.sets.specs.Bit.{in_row}
use Rattle.std.specs.Prelude.{Result, Ok, Err}
use Rattle.refusals.specs.Numbers.{number_of}
use Rattle.refusals.specs.declared.Refusal.{Refusal}
use Rattle.refusals.specs.declared.Refusal.TheVariants.{BadHeader, UnknownCommand, CutShort, OutOfRange, WrongPhase, HeldByX, NoCopy, AllTaken, NotGranted, NoEntry, NotBegun, Finished, NoRoom}
use Rattle.state.specs.declared.Answer.TheVariants.{Content, Accepted}
use Rattle.state.specs.Slices.{Slices, slices}
use Rattle.state.specs.View.{as_phase, out_of_phase, mark_of, part, in_set, shown, no_tally, PHASE, COPIED, WRITTEN}
use Rattle.state.specs.Asked.{InRun}
use Rattle.state.specs.Fit.{Table}
use Rattle.state.specs.Lent.{Steps}
use Rattle.state.proofs.Codes.{second_code}
use Rattle.state.proofs.Keeping.{header_beside, claim_beside}
use Rattle.state.proofs.OutOfPhase.{out_refuses, running_tests}
use Rattle.state.proofs.Parts.{part_in, flat_in}
use Rattle.state.proofs.Rows.{set_row}
use Rattle.state.proofs.Steps.{refused, accepted, same_state}
use Rattle.state.proofs.Tables.{upd2_by}
use Rattle.copies.specs.Barred.{barred_by, Barred}
use Rattle.copies.proofs.Joining.{Joined}
use Rattle.copies.proofs.Marks.{marks, Within, copies, mark_copied, copied_beside, mark_written, written_beside, copy_made, copy_written}

-- ---- Marks by the sets

-- a copy stays as it is
kept_mark : (m : Mark) → has_copy m ≡ true → read_mark m ≡ m
kept_mark absent e = cc
kept_mark copied e = refl
kept_mark written e = refl

kept_copy : (m : Mark) (own other : Sheet) → has_copy m ≡ true → read_copy m own other ≡ own
kept_copy absent own other e = let z : ◌≡◌ {A = Bool} true false = sym e in cc
kept_copy copied own other e = refl
kept_copy written own other e = refl

some_mark : (c w : Bool) → c ≡ true → has_copy (mark_of c w) ≡ true
some_mark true true e = refl
some_mark true false e = refl
some_mark false w e = clash false e refl

-- what is not copied is not written
not_written : (m : ℕ) (s : List ℕ) (t k : ℕ) → Within m s → in_set m COPIED s t k ≡ false → in_set m WRITTEN s t k ≡ false
not_written m s t k w e = bool (in_set m WRITTEN s t k) (λ z. clash (in_set m COPIED s t k) (w t k z) e) (λ z. z)

-- as the code reads it
pub copied_read : (m : ℕ) (s : List ℕ) (t k : ℕ) → t < 32 → k < m → {c : Bool} → c ≡ in_row s (COPIED + t) k → in_set m COPIED s t k ≡ c
copied_read m s t k a b e = set_row m s COPIED a k b ∙ sym e

-- ---- The first tests

-- a refusal has a number
pub some_number : (r : Refusal) → number_of r ≢ 0
some_number BadHeader e = omega arith
some_number UnknownCommand e = omega arith
some_number CutShort e = omega arith
some_number OutOfRange e = omega arith
some_number WrongPhase e = omega arith
some_number HeldByX e = omega arith
some_number NoCopy e = omega arith
some_number AllTaken e = omega arith
some_number NotGranted e = omega arith
some_number NoEntry e = omega arith
some_number NotBegun e = omega arith
some_number Finished e = omega arith
some_number NoRoom e = omega arith

-- there are such a save and such a sheet: what is left is whether it runs
pub barred_run : (m : ℕ) (b : List ℕ) (t k : ℕ) {i : ℕ} → (i ≡ t) × (t < 32) → k < m → (r : Result Unit Refusal) → InRun (get_or b (PHASE + i) 0) r → Barred (barred_by m b t k) r
unfolding barred_by
barred_run m b t k row l (Ok _) e = let run = rw row.0 at e in rw (lt-ltb t 32 row.1, lt-ltb k m l, part_in PHASE 32 b t row.1, run)
barred_run m b t k row l (Err r) e = let out = rw row.0 at e in rw (lt-ltb t 32 row.1, lt-ltb k m l, part_in PHASE 32 b t row.1, out.0) out.1

-- a save and a sheet that are not barred are there
pub in_range : (m : ℕ) (b : List ℕ) (t k : ℕ) → {r : ℕ} → r ≡ barred_by m b t k → r ≡ 0 → (t < 32) × (k < m)
unfolding barred_by
in_range m b t k e z =
    bool (ltb t 32)
    (λ a. bool (ltb k m) (λ c. (ltb-true t 32 a, ltb-true k m c)) (λ c. let four : 4 ≡ 0 = rw (a, c) at (sym e ∙ z) in absurd (omega arith)))
    (λ a. let four : 4 ≡ 0 = rw a at (sym e ∙ z) in absurd (omega arith))

module _ (m : ℕ) (x : Slices) (t k : ℕ) {r : ℕ} (e : r ≡ barred_by m x.bytes t k) where
  abbrev S : Tally → State
  S = shown m x

  abbrev p : ℕ
  p = part PHASE 32 x.bytes t

  -- the front entry of the sheet's queue is an X
  abbrev front : Bool
  front = at_front (x_on (S no_tally).claim k) ((S no_tally).queue k)

  -- the rules' tests that are READ's and WRITE's, and what is asked after them
  by_number : (rest : Checked)
      → cond (ltb t 32) (cond (ltb k m) (cond (not (is_unused (as_phase p))) (cond (not (over (as_phase p)))
      (cond (running (as_phase p)) rest (refuse 5)) (refuse 14)) (refuse 13)) (refuse 4)) (refuse 4)
      ≡ cond (eqb r 0) rest (refuse r)
  unfolding barred_by
  by_number rest =
      rw (e, running_tests rest p) (by_cases (ltb t 32) (ltb k m) (eqb p 1 || eqb p 3) (out_of_phase p) (out_refuses p))
    where
      by_cases : (a b c : Bool) (o : ℕ) → eqb o 0 ≡ false
          → cond a (cond b (cond c rest (refuse o)) (refuse 4)) (refuse 4)
          ≡ (let n = cond a (cond b (cond c 0 o) 4) 4 in cond (eqb n 0) rest (refuse n))
      by_cases true true true o z = refl
      by_cases true true false o z = rw z
      by_cases true false c o z = refl
      by_cases false b c o z = refl

  pub read_barred : r ≢ 0 → (tally : Tally) → check (S tally) (Read t k) ≡ refuse r
  read_barred n tally = by_number _ ∙ rw (ne_eqb r 0 n)

  pub write_barred : (v : ℕ) → r ≢ 0 → (tally : Tally) → check (S tally) (Write t k v) ≡ refuse r
  write_barred v n tally = by_number _ ∙ rw (ne_eqb r 0 n)

  module _ (z : r ≡ 0) where
    k_in : k < m
    k_in = (in_range m x.bytes t k e z).1

    t_in : t < 32
    t_in = (in_range m x.bytes t k e z).0

    -- ---- READ

    -- an own copy
    pub read_own : in_set m COPIED x.sets t k ≡ true → Steps S (Read t k) S (Ok (Content (get_or x.value (t * m + k) 0)))
    read_own c =
        let mark : Mark = marks m x.sets t k in
        let one : has_copy mark ≡ true = some_mark (in_set m COPIED x.sets t k) (in_set m WRITTEN x.sets t k) c in
        let own : Sheet = copies m x.value x.seen t k in
        accepted
        (λ tally. by_number _ ∙ rw (z, second_code p, one, or-true (eqb p 3)))
        (λ tally. rw (kept_mark mark one, kept_copy mark own ((S tally).sheet k) one)
        (same_state refl refl refl refl
        (upd2_by (S tally).mark (S tally).mark t k mark refl (λ x y n. refl))
        (upd2_by (S tally).copy (S tally).copy t k own refl (λ x y n. refl)) refl refl refl refl refl refl refl))
        (λ tally. rw (kept_copy mark own ((S tally).sheet k) one, flat_in m x.value t k k_in))

    module _ (w : Within m x.sets) (n : in_set m COPIED x.sets t k ≡ false) where
      none : in_set m WRITTEN x.sets t k ≡ false
      none = not_written m x.sets t k w n

      -- where there is no copy, the last test is left
      read_last : (b : Bool) → (not (eqb p 3) && front) ≡ b → (tally : Tally) → check (S tally) (Read t k) ≡ cond (not b) pass (refuse 6)
      read_last b o tally = by_number _ ∙ rw (z, second_code p, n, none, sides (eqb p 3) front, o)
        where
          sides : (a b : Bool) → a || not b ≡ not (not a && b)
          sides true b = refl
          sides false b = refl

      pub read_6 : (not (eqb p 3) && front) ≡ true → Steps S (Read t k) S (Err HeldByX)
      read_6 b = refused (read_last true b)

      -- the owner's content and WCT are copied
      pub read_new : (not (eqb p 3) && front) ≡ false → Table 32 m x.value → Table 32 m x.seen → {v c : ℕ} → v ≡ part 0 m x.sheets k → c ≡ part m m x.sheets k
          → {s' : List ℕ} → Joined m (COPIED + t) k x.sets s'
          → Steps S (Read t k) (shown m (slices x.bytes s' x.queues (set x.value (t * m + k) v) (set x.seen (t * m + k) c) x.sheets)) (Ok (Content v))
      read_new b lv ls {v} {c} ev ec j =
          accepted
          (read_last false b)
          (λ tally. rw (n, none) (same_state (header_beside (copied_beside t_in j) x.bytes x.bytes refl) refl refl refl (mark_copied t_in j none)
          (copy_made m x.value x.seen t k t_in k_in v lv c ls ∙ rw (ev, ec))
          (claim_beside (copied_beside t_in j)) refl refl refl refl refl refl))
          (λ tally. rw (n, none, ev))

    -- ---- WRITE

    module _ (v : ℕ) where
      pub write_7 : Within m x.sets → in_set m COPIED x.sets t k ≡ false → Steps S (Write t k v) S (Err NoCopy)
      write_7 w n = refused (λ tally. by_number _ ∙ rw (z, n, not_written m x.sets t k w n))

      pub writes : in_set m COPIED x.sets t k ≡ true → Table 32 m x.value → {s' : List ℕ} → Joined m (WRITTEN + t) k x.sets s'
          → Steps S (Write t k v) (shown m (slices x.bytes s' x.queues (set x.value (t * m + k) v) x.seen x.sheets)) (Ok Accepted)
      writes c lv j =
          accepted
          (λ tally. by_number _ ∙ rw (z, some_mark (in_set m COPIED x.sets t k) (in_set m WRITTEN x.sets t k) c))
          (λ tally. same_state (header_beside (written_beside t_in j) x.bytes x.bytes refl) refl refl refl (mark_written t_in j)
          (copy_written m x.value x.seen t k t_in k_in v lv)
          (claim_beside (written_beside t_in j)) refl refl refl refl refl refl)
          (λ tally. refl)
