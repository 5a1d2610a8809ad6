-- Before n the lines of the first n stand there, in room for as many.
use mathlib.Core.Path.{◌≡◌}
use native.Mathlib.Omega.{arith}
use lib.ListN.{get_or}
use Rattle.rules.specs.Showing.{node_lines}
use Rattle.state.specs.View.{NODES}
use Rattle.clipped.proofs.Laws.{writes_within}
use Rattle.clipped.proofs.Rows.{rising_none, rising_more}
use Rattle.showing.proofs.node_lines.Goals as goal

pub loop-n-init : goal.loop-n-init
loop-n-init c = rising_none _ _ 24

pub loop-n-preserved : goal.loop-n-preserved
loop-n-preserved c = rising_more _ 24 c.loop-n.n c.loop-n.invariant c.node.ensures

pub returns : goal.returns
unfolding node_lines
returns c =
    let e : c.loop-n.n ≡ get_or c.args.x.now.bytes.now NODES 0 = omega arith in
    writes_within (rw e) (omega (arith, e, c.requires.0.nodes)) c.loop-n.invariant
