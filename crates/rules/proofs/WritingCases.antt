-- Every case of request 2, by one computation over the definitions.
use Prim.Native.Nat.{ℕ, ◌-◌, ◌*◌}
use mathlib.Core.Path.{◌≡◌, refl}
use mathlib.Core.List.{List, map, ◌++◌}
use lib.ListN.{length, replicate}
use Rattle.rules.specs.Table.{all}
use Rattle.rules.specs.Cases.{hex}
use Rattle.rules.specs.Writing.{Outcome, Call, form, steps_refusal, in_bytes, operand_bytes, steps_bytes, write, write_call, list_from, read as read_session, read_call, instructions, words, step_words}
use Rattle.rules.specs.WritingCases.{unset, Write, Read, written, read}

-- a room of this size with these at its front
abbrev left : ℕ → Outcome → List ℕ → Call
left size o new = record { outcome = o; room = new ++ replicate (size - length new) unset }

pub writing_cases : map (λ (c : Write). write_call c.heading (instructions c.words) (replicate c.room unset)) written
    ≡ map (λ (c : Write). left c.room c.outcome (hex c.bytes)) written
unfolding all form steps_refusal in_bytes operand_bytes steps_bytes write write_call
writing_cases = refl

pub reading_cases : map (λ (c : Read). read_call (hex c.session) (replicate (step_words * c.room) unset)) read
    ≡ map (λ (c : Read). left (step_words * c.room) c.outcome c.words) read
unfolding all form list_from read_session read_call words
reading_cases = refl
