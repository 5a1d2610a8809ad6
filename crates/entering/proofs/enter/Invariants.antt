use Rattle.state.specs.Lent.{saving, Only}
use Rattle.entering.specs.Enter.{Rowing}
use Rattle.entering.proofs.enter.Given as goal

abbrev pub invariant-loop-j : goal.invariant-loop-j
invariant-loop-j l = record {
  rowing : Rowing l.fn.x.m l.n l.t l.fn.x.seen.now l.fn.x.sheets.now l.fn.x.sets.now l.x.sets.now l.fn.x.queues.now l.x.queues.now l.first l.j;
  only : Only (saving l.fn.x.bytes.now l.x.sets.now l.x.queues.now) l.fn.x l.x;
}
