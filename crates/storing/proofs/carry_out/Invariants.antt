-- A turn for each block.
use Prim.Native.Nat.{◌+◌}
use Rattle.state.specs.View.{OWNED, WRITTEN}
use Rattle.storing.proofs.Carry.{Carried}
use Rattle.storing.proofs.carry_out.Given as goal

abbrev pub invariant-loop-j : goal.invariant-loop-j
invariant-loop-j l = Carried l.m l.t (OWNED + l.n) (WRITTEN + l.t) l.s l.value l.initial.w l.w l.j
