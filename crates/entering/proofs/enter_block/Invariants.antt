use Rattle.state.specs.Lent.{saving, Only}
use Rattle.entering.proofs.Entering.{Going}
use Rattle.entering.proofs.enter_block.Given as goal

abbrev pub invariant-loop-left : goal.invariant-loop-left
invariant-loop-left l = record {
  going : Going l.fn.x.m l.t l.j l.ours l.xs l.copied l.fn.x.seen.now l.fn.x.sheets.now l.fn.x.queues.now l.x.queues.now l.fails l.left;
  only : Only (saving l.fn.x.bytes.now l.fn.x.sets.now l.x.queues.now) l.fn.x l.x;
}

abbrev pub decreases-loop-left : goal.decreases-loop-left
decreases-loop-left l = l.left
