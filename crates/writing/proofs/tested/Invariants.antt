-- The steps so far passed, and `bytes` counts theirs.
use Rattle.writing.proofs.Lists.{Passed}
use Rattle.writing.proofs.tested.Given as goal

abbrev pub invariant-loop-q : goal.invariant-loop-q
invariant-loop-q l = Passed l.nodes l.sheets l.steps l.q-counter l.bytes
