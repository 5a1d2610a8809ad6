-- Before save t the lines of the first t saves stand there, in room for as many.
use mathlib.Core.Path.{◌≡◌}
use Prim.Native.Nat.{◌*◌}
use native.Mathlib.Omega.{arith}
use Rattle.rules.specs.Showing.{holding_lines}
use Rattle.clipped.proofs.Rows.{rising_none, rising_more}
use Rattle.holdings.proofs.lines.Goals as goal

pub loop-t-init : goal.loop-t-init
loop-t-init c = rising_none _ _ (52 * c.args.x.now.m)

pub loop-t-preserved : goal.loop-t-preserved
loop-t-preserved c = rising_more _ (52 * c.args.x.now.m) c.loop-t.t c.loop-t.invariant c.row.ensures

pub returns : goal.returns
unfolding holding_lines
returns c =
    let e : c.loop-t.t ≡ 32 = omega arith in
    rw e at c.loop-t.invariant
