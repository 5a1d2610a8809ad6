-- What the reader's types and numbers mean in the rules.
use Rattle.std.specs.Prelude.{ℕ, suc, ◌*◌, ◌≤◌, ◌≡◌, cond, List, [], ◌∷◌, length, get_or, drop, ltb, Result, Ok, Err}
use Rattle.std.proofs.Math.Option.{Option, none, some}
use Rattle.rules.specs.Bytes.{Form, widths}
use Rattle.rules.specs.Steps.{Checked, pass, refuse}
use Rattle.rules.specs.Writing as rules
use Rattle.refusals.specs.Numbers.{number_of}
use Rattle.refusals.specs.declared.Refusal.{Refusal}
use Rattle.refusals.specs.declared.Refused.{Refused}
use Rattle.wire.specs.Refusing.{refused_at}
use Rattle.forms.specs.Slots.{operands}
use Rattle.text.specs.Wrote.{Wrote}
use Rattle.listing.specs.declared.Listed.{Listed}

-- whether a command byte passes with the bytes behind it, or how it is refused
abbrev pub earned_by : (nodes sheets : ℕ) → Option Form → List ℕ → Checked
earned_by n m none bs = refuse 2
earned_by n m (some f) bs =
    cond (ltb (length bs) (widths f.operands)) (refuse 3) (cond (rules.operands_fit n m f.operands (rules.numbers f.operands bs)) pass (refuse 4))

-- of what stands at the front of the bytes
abbrev pub earned : (nodes sheets : ℕ) → List ℕ → Checked
earned n m [] = pass
earned n m (b ∷ bs) = earned_by n m (rules.form b) bs

-- the test of a step says what it earns
abbrev pub PassedAs : Checked → Result (Unit {0}) Refusal → Type 0
PassedAs k (Ok u) = k ≡ pass
PassedAs k (Err why) = k ≡ refuse (number_of why)

-- the step at an offset
abbrev pub step_at : List ℕ → ℕ → rules.Instruction
step_at b p = rules.instruction (get_or b p 0) (operands (get_or b p 0)) (drop (suc p) b)

-- the steps from an offset on
abbrev pub from : (nodes sheets start : ℕ) → List ℕ → rules.Listing
from n m p b = rules.list_from n m 0 p (drop p b)

-- how many there are, where none is refused
abbrev pub Counts : rules.Listing → Result ℕ Refused → Type 0
Counts l (Ok q) = (is : List rules.Instruction) × ((l ≡ rules.steps is) × (q ≡ length is))
Counts l (Err r) = l ≡ rules.stops (refused_at r)

-- the steps from an offset on, by the counts of some header, fit into so many words
abbrev pub Fits : (start : ℕ) → List ℕ → (room : ℕ) → Type 0
Fits p b room = (n : ℕ) × ((m : ℕ) × ((is : List rules.Instruction) × ((from n m p b ≡ rules.steps is) × (rules.step_words * length is ≤ room))))

-- and stand at the front of the room
abbrev pub Stored : (start : ℕ) → (b before : List ℕ) (end : ℕ) (after : List ℕ) → Type 0
Stored p b before end after =
    (n : ℕ) × ((m : ℕ) × ((is : List rules.Instruction) × ((from n m p b ≡ rules.steps is) × Wrote before 0 (rules.words is) (rules.step_words * length is) end after)))

abbrev pub outcome_of : Result Listed Refused → rules.Outcome
outcome_of (Ok l) = rules.listed l.nodes l.sheets l.steps
outcome_of (Err r) = rules.refuse_with (refused_at r)
