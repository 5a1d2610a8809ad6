-- Save by save.
use native.Mathlib.Omega.{arith}
use Rattle.joining.proofs.Seats.{ahead_on, freed}
use Rattle.joining.proofs.give_place.Goals as goal

pub loop-u-preserved : goal.loop-u-preserved
loop-u-preserved c = let l = c.loop-u in ahead_on c.args.t l.u c.args.q.now l.q c.without.result l.invariant (omega (arith, c.requires.0, l.invariant.long, c.loop-u-test.true)) c.without.ensures

pub returns : goal.returns
returns c = let l = c.loop-u in freed c.args.t c.args.q.now l.q c.without-2.result l.invariant l.auto.u-end c.loop-u-test.false (omega (arith, c.requires.0, l.invariant.long)) c.without-2.ensures
