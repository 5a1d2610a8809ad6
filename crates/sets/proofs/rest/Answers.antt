use Prim.Native.Nat.{ℕ, ◌-◌, ◌<◌}
use native.Mathlib.Omega.{arith}
use lib.Bits.{bit_and, and_le_r}
use Rattle.sets.proofs.Bits.{bit_rest}
use Rattle.sets.proofs.rest.Goals as goal

pub returns : goal.returns
returns c = record { bits = λ k. bit_rest c.args.x k c.requires c.ranges.x.fits; less = below c.args.x c.requires }
  where
    below : (x : ℕ) → 0 < x → bit_and x (x - 1) < x
    below x h = omega (arith, and_le_r x (x - 1))
