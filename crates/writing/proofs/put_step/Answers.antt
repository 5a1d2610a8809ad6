-- With the bytes ahead of it, or its own alone.
use Prim.Native.Nat.{◌+◌}
use native.Mathlib.Omega.{arith}
use lib.ListN.{get_or}
use Rattle.forms.proofs.Slots.{step_size}
use Rattle.writing.proofs.Ahead.{ahead_own}
use Rattle.writing.proofs.Putting.{step_spread}
use Rattle.writing.proofs.put_step.Goals as goal

pub overflow_add-end : goal.overflow_add-end
overflow_add-end c =
    let ws = c.args.steps.now in
    let i = c.args.i in
    omega (arith, c.size.ensures, step_size (get_or ws i 0) (get_or ws (i + 1) 0) (get_or ws (i + 2) 0) (get_or ws (i + 3) 0))

pub returns-then-out-ge-LONGEST : goal.returns-then-out-ge-LONGEST
returns-then-out-ge-LONGEST c =
    let ws = c.args.steps.now in
    let i = c.args.i in
    step_spread (get_or ws i 0) (get_or ws (i + 1) 0) (get_or ws (i + 2) 0) (get_or ws (i + 3) 0) c.requires.1 _ c.size.ensures c.put_longest.ensures

pub put_own-requires : goal.put_own-requires
put_own-requires c =
    let ws = c.args.steps.now in
    let i = c.args.i in
    let s = step_size (get_or ws i 0) (get_or ws (i + 1) 0) (get_or ws (i + 2) 0) (get_or ws (i + 3) 0) in
    (omega arith, omega arith)

pub returns : goal.returns
returns c = ahead_own (c.put_own.ensures (get_or c.args.steps.now (c.args.i + 3) 0))
