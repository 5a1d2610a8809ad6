-- A column of the table of commands as a word with a byte for each command.
use Rattle.std.specs.Prelude.{ℕ, suc, ◌-◌, ◌*◌, ◌/◌, ◌%◌, ◌^◌, ◌≤◌, ◌≡◌}
use Rattle.rules.specs.Sizes.{max_nodes, max_sheets}
use Rattle.forms.specs.Slots.{slot, operands, slot_limit, Known}
use Rattle.forms.specs.declared.Largest.{Largest}

-- the byte of command number c, from 1 on
unfoldable pub byte_of : (column c : ℕ) → ℕ
byte_of w c = w / 2 ^ (8 * (c - 1)) % 256

-- the counts of a header that opens
abbrev pub Ranged : (nodes sheets : ℕ) → Type 0
Ranged n m = ((1 ≤ n) × (n ≤ max_nodes)) × ((1 ≤ m) × (m ≤ max_sheets))

-- the largest first and second operand of each command, by the counts of a header; 0 where it has none
pub record Bounds (nodes sheets : ℕ) (l : Largest) : Type 0 where
  pub first : (c : ℕ) → Known c → slot_limit nodes sheets (slot (operands c) 0) ≡ suc (byte_of l.first c)
  pub second : (c : ℕ) → Known c → slot_limit nodes sheets (slot (operands c) 1) ≡ suc (byte_of l.second c)
