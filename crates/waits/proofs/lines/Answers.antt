-- Before sheet k the lines of the first k queues stand there, in room for as many.
use mathlib.Core.Path.{◌≡◌}
use native.Mathlib.Omega.{arith}
use Rattle.clipped.proofs.Rows.{rising_none, rising_more}
use Rattle.waits.proofs.Shown.{shown}
use Rattle.waits.proofs.lines.Goals as goal

pub loop-k-init : goal.loop-k-init
loop-k-init c = rising_none _ _ 3968

pub loop-k-preserved : goal.loop-k-preserved
loop-k-preserved c = rising_more _ 3968 c.loop-k.k c.loop-k.invariant c.queue.ensures

pub returns : goal.returns
returns c =
    λ sets claimed.
    let x = c.args.x.now in
    let e : c.loop-k.k ≡ x.m = omega arith in
    rw (shown x.m x.bytes.now sets x.queues.now c.line_of-n.ensures claimed) at (rw e at c.loop-k.invariant)
