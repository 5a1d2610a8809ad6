-- The list in a room that it fits, and the call as the host sees it.
use Prim.Native.Nat.{ℕ, ◌≤◌}
use mathlib.Core.Path.{◌≡◌, refl, sym, ap, ◌∙◌}
use mathlib.Core.List.{List, map}
use native.Mathlib.Omega.{arith}
use borrow.Author.Tests.{le-ltb}
use lib.ListN.{length, length-map}
use Rattle.std.specs.Prelude.{Some, None}
use Rattle.rules.specs.Writing as lists
use Rattle.rules.specs.Report.{Filled}
use Rattle.text.proofs.Writing.{wrote_as, wrote_front}
use Rattle.rules.specs.Answers.{session_replies}
use Rattle.wire.specs.declared.Header.{Header}
use Rattle.wire.specs.Meaning.{opened}
use Rattle.wire.proofs.Opening.{opening, unopened}
use Rattle.codes.specs.Codes.{outcome_code, answer_code, told_call, fitted}
use Rattle.codes.proofs.Laws.{length_is}
use Rattle.codes.specs.Decoding.{outcome_in}
use Rattle.answers.specs.Meaning.{answers_call}
use Rattle.answers.specs.Telling.{Listed}

module _ {b room after : List ℕ} {m n : ℕ} (g : Listed b m room n after) where
  -- the room has place for all
  pub all_told : n ≤ length room → record { outcome = lists.wrote n; room = after } ≡ fitted (map answer_code (session_replies b)) room
  all_told h =
      let q = length_is g.listed.wrote in
      let f = wrote_front (wrote_as refl (omega arith) g.listed.wrote) (let z : length (map answer_code (session_replies b)) ≤ length room = omega (arith, q, h) in z) in
      rw (le-ltb (length room) (length (map answer_code (session_replies b))) (omega (arith, q, h))) (ap (λ (r : Filled). record { outcome = lists.wrote r.size; room = r.buffer }) f)

-- counted, and then told
pub same_many : {b room room' after after' : List ℕ} {m n e : ℕ} → Listed b m room n after → Listed b m room' e after' → e ≡ n
same_many f g = length_is g.listed.wrote ∙ sym (length_is f.listed.wrote)

-- ---- A session that opens, and one that earns refusal 1

pub answers_of : (b room : List ℕ) {h : Header} → opened b ≡ Some h → fitted (map answer_code (session_replies b)) room ≡ answers_call b room
unfolding answers_call
answers_of b room {h} e = rw ((opening b h e).opened_well, length-map (session_replies b) answer_code)

pub no_answers : (b : List ℕ) → opened b ≡ None → (room : List ℕ) {code : ℕ} → code ≡ outcome_code (lists.refuse_with (lists.at 0 1)) → outcome_in code ≡ lists.refuse_with (lists.at 0 1)
    → (record { code = code; room = room } ≡ told_call (answers_call b room)) × (outcome_in code ≡ (answers_call b room).outcome)
unfolding answers_call
no_answers b e room k d = let u = unopened b e in (rw (u, k), rw u d)
