-- A command's operands by slots.
use Rattle.std.specs.Prelude.{ℕ, zero, suc, ◌≡◌, Bool, true, false, List, [], ◌∷◌}
use Rattle.std.proofs.Math.Option.{Option, none, some}
use Rattle.rules.specs.Bytes.{Operand, limit}
use Rattle.rules.specs.Writing.{Instruction, form, operands_in}

-- ---- A step by its numbers

abbrev pub three : (x y z : ℕ) → List ℕ
three x y z = x ∷ y ∷ z ∷ []

abbrev pub step : (c x y z : ℕ) → Instruction
step c x y z = record { number = c; operands = three x y z }

-- ---- What stands at a slot

abbrev pub slot : List Operand → ℕ → Option Operand
slot [] i = none
slot (o ∷ os) zero = some o
slot (o ∷ os) (suc i) = slot os i

-- the operands of a command number
unfoldable pub operands : ℕ → List Operand
operands c = operands_in (form c)

abbrev pub is_present : Option Operand → Bool
is_present none = false
is_present (some o) = true

-- every command has an operand, so that a number with one is a command's
abbrev pub Known : ℕ → Type 0
Known c = is_present (slot (operands c) 0) ≡ true

-- a number that the command has no operand for is 0
abbrev pub slot_limit : (nodes sheets : ℕ) → Option Operand → ℕ
slot_limit n m none = 1
slot_limit n m (some o) = limit n m o
