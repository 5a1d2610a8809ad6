-- Before t the lines of the first t stand there, in room for as many.
use mathlib.Core.Path.{◌≡◌}
use native.Mathlib.Omega.{arith}
use Rattle.rules.specs.Showing.{save_lines}
use Rattle.clipped.proofs.Rows.{rising_none, rising_more}
use Rattle.showing.proofs.save_lines.Goals as goal

pub loop-t-init : goal.loop-t-init
loop-t-init c = rising_none _ _ 41

pub loop-t-preserved : goal.loop-t-preserved
loop-t-preserved c = rising_more _ 41 c.loop-t.t c.loop-t.invariant c.save.ensures

pub returns : goal.returns
unfolding save_lines
returns c =
    let e : c.loop-t.t ≡ 32 = omega arith in
    rw e at c.loop-t.invariant
