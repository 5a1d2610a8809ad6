-- A sheet's block lies in the table of sets.
use Prim.Native.Nat.{ℕ, ◌<◌}
use native.Mathlib.Omega.{arith}
use Rattle.state.specs.declared.Session.{Session}
use Rattle.state.proofs.Parts.{in_block}
use Rattle.holdings.specs.Held.{Reach, Readable}

pub reaches : {x : Session} → Readable x → (t k : ℕ) → t < 32 → k < x.m → Reach x.sets.now t k
reaches {x} r t k th km = (th, let a = r.reach in let b = in_block x.m k km in omega arith)
