-- Before each step those before it stand there.
use native.Mathlib.Omega.{arith}
use Rattle.writing.proofs.Passing.{put_none, put_next, put_all, here_known, here_room}
use Rattle.writing.proofs.put_steps.Goals as goal

pub loop-q-init : goal.loop-q-init
loop-q-init c = put_none _ _ c.requires.0

pub put_step-requires : goal.put_step-requires
put_step-requires c =
    let p = c.loop-q.invariant in
    (omega arith, here_known p (omega arith), here_room p (omega arith) c.requires.1)

pub loop-q-preserved : goal.loop-q-preserved
loop-q-preserved c = put_next c.loop-q.invariant (omega arith) c.put_step.ensures

pub returns : goal.returns
returns c = put_all c.loop-q.invariant (omega arith) c.requires.1
