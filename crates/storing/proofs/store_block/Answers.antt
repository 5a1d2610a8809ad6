-- A turn for each sheet of the block.
use Rattle.sets.proofs.Loops.{at_digit}
use Rattle.storing.proofs.Carry.{storing_first, storing_step, storing_end, at_sheets, rises_here}
use Rattle.storing.proofs.store_block.Goals as goal

pub loop-i-init : goal.loop-i-init
loop-i-init c = rw (c.into_iter-i-iterator.ensures.into_iter_gives, c.members-i-items.ensures) (storing_first c.args.w.now c.ranges.ours.fits)

pub store_sheet-requires : goal.store_sheet-requires
store_sheet-requires c = let g = c.loop-i.invariant in let n = c.in-Some.ensures.steps in (c.requires.0, at_sheets g n.0 c.in-Some.i n.1 c.requires.1, c.requires.2, c.requires.3, (at_digit g.over n.0 c.args.j c.requires.5 n.1).1, rises_here g n.0 c.in-Some.i n.1 c.requires.6)

pub loop-i-preserved : goal.loop-i-preserved
loop-i-preserved c = let n = c.in-Some.ensures.steps in storing_step c.loop-i.invariant n.0 c.in-Some.i n.1 n.2 c.store_sheet.ensures

pub returns : goal.returns
returns c = storing_end c.loop-i.invariant c.in-None.ensures.steps.0
