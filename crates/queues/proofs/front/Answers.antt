use native.Mathlib.Omega.{arith}
use Rattle.queues.proofs.Going.{first_small, going_first, next_small, going_less, going_on, going_end}
use Rattle.queues.proofs.front.Goals as goal

pub bounds-q-u : goal.bounds-q-u
bounds-q-u c = let z = first_small c.requires.2 c.lowest-u.ensures c.ranges.x.fits c.requires.1 c.requires.0 in omega (arith, z.1)

pub loop-left-init : goal.loop-left-init
loop-left-init c = going_first c.requires.2 c.lowest-u.ensures c.ranges.x.fits c.requires.1 c.both-left.type_inv c.both-left.ensures

pub bounds-q-u-in-loop-left : goal.bounds-q-u-in-loop-left
bounds-q-u-in-loop-left c = let z = next_small c.requires.2 c.loop-left.invariant c.loop-left-test.true c.lowest-u-in-loop-left.ensures c.requires.0 in omega (arith, z.1)

pub loop-left-smaller : goal.loop-left-smaller
loop-left-smaller c = going_less c.requires.2 c.loop-left.invariant c.loop-left-test.true c.lowest-u-in-loop-left.ensures c.both-left-in-loop-left.type_inv c.both-left-in-loop-left.ensures

pub loop-left-preserved : goal.loop-left-preserved
loop-left-preserved c = going_on c.requires.2 c.loop-left.invariant c.loop-left-test.true c.lowest-u-in-loop-left.ensures c.both-left-in-loop-left.type_inv c.both-left-in-loop-left.ensures

pub returns : goal.returns
returns c = going_end c.requires.2 c.loop-left.invariant c.loop-left-test.false
