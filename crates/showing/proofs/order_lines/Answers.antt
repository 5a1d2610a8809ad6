-- Before p the lines of the first p stand there, in room for as many.
use mathlib.Core.Path.{◌≡◌}
use native.Mathlib.Omega.{arith}
use Rattle.rules.specs.Showing.{order_lines}
use Rattle.state.specs.View.{placed}
use Rattle.clipped.proofs.Laws.{writes_within}
use Rattle.clipped.proofs.Rows.{rising_none, rising_more}
use Rattle.showing.proofs.Laws.{order_length}
use Rattle.showing.proofs.order_lines.Goals as goal

pub loop-p-init : goal.loop-p-init
loop-p-init c = rising_none _ _ 26

pub loop-p-preserved : goal.loop-p-preserved
loop-p-preserved c = rising_more _ 26 c.loop-p.p c.loop-p.invariant c.place.ensures

pub returns : goal.returns
unfolding order_lines
returns c =
    let e : c.loop-p.p ≡ placed c.args.x.now.queues.now = omega arith in
    writes_within (rw (order_length c.requires.0.ordered, e)) (omega (arith, e, c.requires.0.fits)) c.loop-p.invariant
