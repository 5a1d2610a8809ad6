-- Before each step those before it stand there.
use Rattle.writing.proofs.Passing.{Put}
use Rattle.writing.proofs.put_steps.Given as goal

abbrev pub invariant-loop-q : goal.invariant-loop-q
invariant-loop-q l = Put l.steps l.q l.initial.out l.out
