-- A step's bytes, as the writer stores them.
use Prim.Native.Nat.{ℕ, ◌+◌, ◌-◌, ◌%◌, ◌≤◌, ◌<◌}
use mathlib.Core.Path.{◌≡◌, refl, sym, ap, ◌∙◌}
use mathlib.Core.List.{List, [], ◌∷◌, ◌++◌, append-nil, append_assoc}
use native.Mathlib.Nat.{div-one, mod-eq_of_lt}
use native.Mathlib.Omega.{arith}
use borrow.Rule.Slice.PartMut.{put_mid}
use lib.ListN.{length}
use lib.Seq.{sets, sets-eq}
use Rattle.std.specs.Int.{w32, to_be_bytes}
use Rattle.std.proofs.lemmas.List.Edits.{paste_all}
use Rattle.std.proofs.lemmas.Slice.{put_mid-paste}
use Rattle.rules.specs.Bytes.{Operand, widths}
use Rattle.rules.specs.Writing.{operand_bytes, in_bytes, step_bytes}
use Rattle.forms.specs.Slots.{three, step, operands, Known}
use Rattle.forms.proofs.Slots.{number_range, step_size}
use Rattle.forms.proofs.Shapes.{Shape, short, middle, long, shape}
use Rattle.text.specs.declared.Writer.{Writer}
use Rattle.text.specs.Wrote.{Wrote}
use Rattle.text.specs.Writes.{Writes}
use Rattle.text.proofs.Writing.{writes_as}
use Rattle.writing.specs.Ahead.{Ahead, spread}
use Rattle.writing.proofs.Ahead.{ahead_spread}

-- a number in one byte and in four
one_byte : (v : ℕ) → v % 256 ∷ [] ≡ in_bytes 1 v
unfolding in_bytes
one_byte v = rw div-one

pub four_in : (v : ℕ) → to_be_bytes w32 v ≡ in_bytes 4 v
unfolding in_bytes
four_in v = rw div-one

-- a part of a slice that was written over as a whole
part_stored : (l x y : List ℕ) (a : ℕ) → y ≡ x → length x ≡ 4 → a + 4 ≤ length l → put_mid a (a + 4 - a) l y ≡ sets l a x
part_stored l x y a e n h =
    put_mid-paste a (a + 4 - a) l y x 4 e (omega arith) (sym n) ∙ paste_all l a x 4 (sym n) ∙ sym (sets-eq x l a (omega arith) ∙ rw (n, append_assoc))

pub four_wrote : (l y : List ℕ) (a v : ℕ) → y ≡ to_be_bytes w32 v → a + 4 ≤ length l → Wrote l a (in_bytes 4 v) 4 (a + 4) (put_mid a (a + 4 - a) l y)
four_wrote l y a v e h =
    rw (← four_in v) (record { ends = refl; bytes = part_stored l (to_be_bytes w32 v) y a e refl h; short = omega arith })

-- ---- A step by the shape of its operands

module _ (x y z : ℕ) where
  -- the operands' bytes, and what is ahead of them
  spread_by : {P : Type 0} (os : List Operand) → Shape os → ((spare : List ℕ) → x % 256 ∷ y % 256 ∷ in_bytes 4 z ≡ operand_bytes os (three x y z) ++ spare → P) → P
  unfolding operand_bytes
  spread_by _ (short o a) on = on (y % 256 ∷ in_bytes 4 z) (rw (a, ← one_byte x))
  spread_by _ (middle o p a b) on = on (in_bytes 4 z) (rw (a, b, ← one_byte x, ← one_byte y))
  spread_by _ (long o p a b) on =
      let e = append-nil (in_bytes 4 z ++ []) ∙ append-nil (in_bytes 4 z) in
      on [] (rw (a, b, ← one_byte x, ← one_byte y) (ap (λ (t : List ℕ). x % 256 ∷ y % 256 ∷ t) (sym e)))

  -- one byte, or two
  one_by : (os : List Operand) → Shape os → widths os ≡ 1 → x % 256 ∷ [] ≡ operand_bytes os (three x y z)
  unfolding operand_bytes
  one_by _ (short o a) e = rw (a, ← one_byte x)
  one_by _ (middle o p a b) e = absurd (omega arith)
  one_by _ (long o p a b) e = absurd (omega arith)

  two_by : (os : List Operand) → Shape os → (widths os ≡ 1 → ⊥) → widths os < 6 → x % 256 ∷ y % 256 ∷ [] ≡ operand_bytes os (three x y z)
  unfolding operand_bytes
  two_by _ (short o a) n l = absurd (n (omega arith))
  two_by _ (middle o p a b) n l = rw (a, b, ← one_byte x, ← one_byte y)
  two_by _ (long o p a b) n l = absurd (omega arith)

module _ (c x y z : ℕ) (k : Known c) where
  number : c % 256 ≡ c
  number = mod-eq_of_lt (omega (arith, number_range c k))

  pub step_spread : {w v : Writer} (r : ℕ) → r ≡ 1 + widths (operands c) → Writes w v (spread c x y z) 7 → Ahead w (record { buf = v.buf; at = w.at + r }) (step_bytes (step c x y z))
  unfolding operands
  step_spread {w} r q p =
      spread_by x y z (operands c) (shape c k) (λ spare e.
      ahead_spread (step_bytes (step c x y z)) spare (w.at + r) (rw (number, e)) (rw (q, step_size c x y z)) p)

  pub own_one : {w v : Writer} → 1 + widths (operands c) ≡ 2 → Writes w v (c % 256 ∷ x % 256 ∷ []) 2 → Writes w v (step_bytes (step c x y z)) 7
  unfolding operands
  own_one e p = writes_as (rw (number, one_by x y z (operands c) (shape c k) (omega arith))) (omega (arith, step_size c x y z)) p

  pub own_two : {w v : Writer} → (1 + widths (operands c) ≡ 2 → ⊥) → 1 + widths (operands c) < 7 → Writes w v (c % 256 ∷ x % 256 ∷ y % 256 ∷ []) 3 → Writes w v (step_bytes (step c x y z)) 7
  unfolding operands
  own_two n h p = writes_as (rw (number, two_by x y z (operands c) (shape c k) (λ e. n (omega arith)) (omega arith))) (omega (arith, step_size c x y z)) p
