-- Numbers by the case that the match told, and what fits a room or not.
use Prim.Native.Nat.{ℕ, ◌≤◌, ◌<◌, ◌^◌, min}
use mathlib.Core.Path.{◌≡◌, ap, ◌∙◌}
use mathlib.Core.List.{List}
use native.Mathlib.Nat.{zero-add, min-eq_left}
use borrow.Author.Tests.{lt-ltb}
use lib.ListN.{length}
use native.Mathlib.Omega.{arith}
use Rattle.rules.specs.Sizes.{max_session, max_state}
use Rattle.rules.specs.Calls as calls
use Rattle.rules.specs.Writing as lists
use Rattle.text.specs.Wrote.{Wrote}
use Rattle.std.specs.Prelude.{Result, Ok, Option, None}
use Rattle.refusals.specs.Numbers.{number_of}
use Rattle.refusals.specs.declared.Refusal.{Refusal}
use Rattle.refusals.specs.declared.Refusal.TheVariants.{BadHeader, UnknownCommand, CutShort, OutOfRange, WrongPhase, HeldByX, NoCopy, AllTaken, NotGranted, NoEntry, NotBegun, Finished, NoRoom}
use Rattle.refusals.specs.declared.Refused.{Refused}
use Rattle.wire.specs.Refusing.{refused_at, outcome_of}
use Rattle.session.specs.declared.Reply.{Reply}
use Rattle.session.specs.Meaning.{value_of, reply_of}
use Rattle.codes.specs.Codes.{coded, answer_code, last_place, outcome_code, told_call, fitted}
use Rattle.codes.specs.Decoding.{answer_of, outcome_in, as_told}
use Rattle.codes.proofs.Decoding.{Fitting, FittingOutcome, decoded, told_as}

-- a refusal's number has 8 bits
pub few_numbers : (r : Refusal) → number_of r < 2 ^ 8
few_numbers BadHeader = omega arith
few_numbers UnknownCommand = omega arith
few_numbers CutShort = omega arith
few_numbers OutOfRange = omega arith
few_numbers WrongPhase = omega arith
few_numbers HeldByX = omega arith
few_numbers NoCopy = omega arith
few_numbers AllTaken = omega arith
few_numbers NotGranted = omega arith
few_numbers NoEntry = omega arith
few_numbers NotBegun = omega arith
few_numbers Finished = omega arith
few_numbers NoRoom = omega arith

-- by the case that the match told
pub told : (r x : Reply) {n : ℕ} → r ≡ x → Fitting (calls.answers (value_of x)) → n ≡ answer_code (calls.answers (value_of x)) → answer_of n ≡ calls.answers (value_of r)
told r x q h e = rw q ((decoded (calls.answers (value_of x)) h e).1)

pub none_told : (r : Result (Option Reply) Refused) (l : Option Reply) {n : ℕ} → r ≡ Ok l → l ≡ None → n ≡ coded 0 0 0 → answer_of n ≡ reply_of r
none_told r l q p e = rw (q, p) ((decoded calls.no_command tt e).1)

pub told_number : (p c : ℕ) {n : ℕ} → c < 256 → p ≤ max_session → n ≡ coded 7 (min p last_place) c → (n ≡ answer_code (calls.refusal p c)) × (answer_of n ≡ calls.refusal p c)
told_number p c f h e = let m : min p last_place ≡ p = min-eq_left (omega arith) in decoded (calls.refusal p c) (omega arith, f) (rw m at e)

pub told_refused : (x : Refused) {n : ℕ} → x.place ≤ max_session → n ≡ coded 7 (min x.place last_place) (number_of x.why)
    → (n ≡ answer_code (calls.refusal x.place (number_of x.why))) × (answer_of n ≡ calls.refusal x.place (number_of x.why))
told_refused x h e =
    let m : min x.place last_place ≡ x.place = min-eq_left (omega arith) in
    decoded (calls.refusal x.place (number_of x.why)) (omega arith, few_numbers x.why) (rw m at e)

-- ---- Calls that write into a room

-- a refusal's place, as far as a code holds it
pub number_told : (p c : ℕ) {k : ℕ} → c < 256 → k ≡ coded 7 (min p last_place) c → (k ≡ outcome_code (lists.refuse_with (lists.at p c))) × (outcome_in k ≡ as_told (lists.refuse_with (lists.at p c)))
number_told p c f e = told_as (lists.refuse_with (lists.at p c)) f e

pub refused_told : (r : Refused) {k : ℕ} → k ≡ coded 7 (min r.place last_place) (number_of r.why) → (k ≡ outcome_code (lists.refuse_with (refused_at r))) × (outcome_in k ≡ as_told (lists.refuse_with (refused_at r)))
refused_told r e = told_as (lists.refuse_with (refused_at r)) (few_numbers r.why) e

-- a place that small is told whole
pub told_whole : (r : Refused) → r.place ≤ max_state → as_told (lists.refuse_with (refused_at r)) ≡ lists.refuse_with (refused_at r)
told_whole r h = let m : min r.place last_place ≡ r.place = min-eq_left (omega arith) in rw m

-- the call as the host sees it
pub placed_told : {room : List ℕ} {c : lists.Call} {k : ℕ} (p : Result ℕ Refused) → record { outcome = outcome_of p; room = room } ≡ c → (k ≡ outcome_code (outcome_of p)) × (outcome_in k ≡ outcome_of p)
    → (record { code = k; room = room } ≡ told_call c) × (outcome_in k ≡ c.outcome)
placed_told p e q = (rw q.0 (ap told_call e), q.1 ∙ ap (λ (c : lists.Call). c.outcome) e)

pub call_told : {room : List ℕ} {c : lists.Call} {k : ℕ} (o : lists.Outcome) → FittingOutcome o → record { outcome = o; room = room } ≡ c → k ≡ outcome_code o
    → (record { code = k; room = room } ≡ told_call c) × (outcome_in k ≡ as_told c.outcome)
call_told o h e q = (rw q (ap told_call e), (told_as o h q).1 ∙ ap (λ (c : lists.Call). as_told c.outcome) e)

-- what was written aside, or into no room, tells the length
module _ {l m x : List ℕ} {n u : ℕ} (w : Wrote l 0 x u n m) where
  pub length_is : n ≡ length x
  length_is = w.ends ∙ zero-add (length x)

  pub too_short : {room : List ℕ} → length room < n → record { outcome = lists.refuse_with (lists.at n 15); room = room } ≡ fitted x room
  too_short {room} h = rw (lt-ltb (length room) (length x) (omega (arith, length_is, h)), length_is)
