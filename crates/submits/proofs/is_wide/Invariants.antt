-- Block by block, to the first that asks for more.
use Rattle.submits.proofs.Wide.{Narrow}
use Rattle.submits.proofs.is_wide.Given as goal

abbrev pub invariant-loop-j : goal.invariant-loop-j
invariant-loop-j l = Narrow l.s l.t l.j
