-- A turn for each sheet of the block.
use native.Mathlib.Omega.{arith}
use Rattle.sets.proofs.Loops.{some_left, at_digit}
use Rattle.leaving.proofs.Going.{going_first, going_step, going_end, at_queues}
use Rattle.leaving.proofs.leave_block.Goals as goal

pub loop-left-init : goal.loop-left-init
loop-left-init c = going_first c.args.q.now c.ranges.ours.fits

pub overflow_add-k : goal.overflow_add-k
overflow_add-k c = let a = at_digit c.loop-left.invariant.over c.loop-left-test.true c.args.j c.requires.4 c.lowest.ensures in omega arith

pub leave_sheet-requires : goal.leave_sheet-requires
leave_sheet-requires c = let g = c.loop-left.invariant in (at_queues g c.requires.0, c.requires.1, c.requires.2, (at_digit g.over c.loop-left-test.true c.args.j c.requires.4 c.lowest.ensures).1)

pub rest-left-requires : goal.rest-left-requires
rest-left-requires c = some_left c.loop-left-test.true

pub loop-left-smaller : goal.loop-left-smaller
loop-left-smaller c = c.rest-left.ensures.less

pub loop-left-preserved : goal.loop-left-preserved
loop-left-preserved c = going_step c.loop-left.invariant c.loop-left-test.true c.lowest.ensures c.rest-left.ensures c.leave_sheet.ensures

pub returns : goal.returns
returns c = going_end c.loop-left.invariant c.loop-left-test.false
