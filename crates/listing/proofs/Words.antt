-- A step's words, as the reader stores them.
use Prim.Native.Nat.{ℕ, suc, ◌+◌}
use mathlib.Core.Path.{◌≡◌, refl}
use mathlib.Core.List.{List, [], ◌∷◌}
use native.Mathlib.Omega.{arith}
use lib.ListN.{set}
use Rattle.rules.specs.Writing.{Instruction, words}
use Rattle.forms.specs.Slots.{step}
use Rattle.text.specs.Wrote.{Wrote}

pub four_wrote : (l : List ℕ) (i c x y z : ℕ) → Wrote l i (words (step c x y z ∷ [])) 4 (i + 4) (set (set (set (set l i c) (i + 1) x) (i + 2) y) (i + 3) z)
unfolding words
four_wrote l i c x y z =
    let one : i + 1 ≡ suc i = omega arith in
    let two : i + 2 ≡ suc (suc i) = omega arith in
    let three : i + 3 ≡ suc (suc (suc i)) = omega arith in
    rw (one, two, three) (record { ends = refl; bytes = refl; short = omega arith })

-- the same step by another name
pub as_step : {l m : List ℕ} {i e : ℕ} {s t : Instruction} → s ≡ t → Wrote l i (words (s ∷ [])) 4 e m → Wrote l i (words (t ∷ [])) 4 e m
as_step q w = rw (← q) w
