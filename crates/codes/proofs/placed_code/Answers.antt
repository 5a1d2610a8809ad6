-- A size, or a refusal's place that is told whole.
use mathlib.Core.Path.{◌∙◌}
use native.Mathlib.Omega.{arith}
use Prim.Native.Nat.{◌≤◌}
use Rattle.rules.specs.Sizes.{max_state}
use Rattle.rules.specs.Writing as lists
use Rattle.codes.proofs.Decoding.{told_as}
use Rattle.codes.proofs.Laws.{told_whole}
use Rattle.codes.proofs.placed_code.Goals as goal

pub returns-in-Ok-clause-decoded : goal.returns-in-Ok-clause-decoded
returns-in-Ok-clause-decoded c = rw c.in-Ok.is ((told_as (lists.wrote c.in-Ok.n) (let h : c.in-Ok.n ≤ max_state = rw c.in-Ok.is at c.requires in omega arith) c.code.ensures).1)

pub returns-in-Err-clause-decoded : goal.returns-in-Err-clause-decoded
returns-in-Err-clause-decoded c = rw c.in-Err.is (c.refusal_code.ensures.decoded ∙ told_whole c.in-Err.needs (rw c.in-Err.is at c.requires))
