-- Each block loses both sets.
use Rattle.decides.specs.Settling.{Cleared}
use Rattle.decides.proofs.clear.Given as goal

abbrev pub invariant-loop-j : goal.invariant-loop-j
invariant-loop-j l = Cleared l.j l.t l.initial.s l.s
