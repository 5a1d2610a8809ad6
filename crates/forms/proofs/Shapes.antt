-- The three shapes of a command's operands.
use Prim.Native.Nat.{ℕ, ◌≤◌}
use mathlib.Core.Path.{◌≡◌, refl}
use mathlib.Core.List.{List, [], ◌∷◌}
use native.Mathlib.Omega.{arith}
use Rattle.rules.specs.Bytes.{Operand, save, sheet, node, content, width, widths}
use Rattle.forms.specs.Slots.{operands, Known}
use Rattle.forms.proofs.Slots.{by_table}

-- one byte or two, and a content behind two
pub data Shape : List Operand → Type 0 where
  short : (o : Operand) → width o ≡ 1 → Shape (o ∷ [])
  middle : (o p : Operand) → width o ≡ 1 → width p ≡ 1 → Shape (o ∷ p ∷ [])
  long : (o p : Operand) → width o ≡ 1 → width p ≡ 1 → Shape (o ∷ p ∷ content ∷ [])

pub shape : (c : ℕ) → Known c → Shape (operands c)
shape c k =
    by_table (λ c os. Shape os)
    (short save refl, (middle save sheet refl refl, (long save sheet refl refl, (short save refl, (short node refl, (short save refl, (middle node save refl refl, (short save refl, tt)))))))) c k

pub shape_size : {os : List Operand} → Shape os → (1 ≤ widths os) × (widths os ≤ 6)
shape_size (short o a) = omega arith
shape_size (middle o p a b) = omega arith
shape_size (long o p a b) = omega arith

pub size_small : (c : ℕ) → Known c → (1 ≤ widths (operands c)) × (widths (operands c) ≤ 6)
size_small c k = shape_size (shape c k)
