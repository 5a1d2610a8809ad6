-- A turn for each block.
use Rattle.leaving.proofs.Leaving.{Blocks}
use Rattle.leaving.proofs.leave.Given as goal

abbrev pub invariant-loop-j : goal.invariant-loop-j
invariant-loop-j l = Blocks l.m l.t l.i l.initial.s l.initial.q l.s l.q l.j
