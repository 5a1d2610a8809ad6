-- The steps before the offset stand in the first words.
use native.Mathlib.Omega.{arith}
use Rattle.listing.proofs.Storing.{storing_none, storing_next, storing_all, storing_room, storing_known, storing_fits}
use Rattle.listing.proofs.put_steps.Goals as goal

pub loop-at-init : goal.loop-at-init
loop-at-init c = storing_none _ _ _ c.requires.0 c.requires.1

pub invariant_of-size : goal.invariant_of-size
invariant_of-size c = record { known = storing_known c.loop-at.invariant c.loop-at-test.true }

pub put_step-i-requires : goal.put_step-i-requires
put_step-i-requires c =
    let s = c.loop-at.invariant in
    let l = c.loop-at-test.true in
    (storing_room s l, storing_known s l, storing_fits s l)

pub overflow_add-at : goal.overflow_add-at
overflow_add-at c =
    let n = storing_fits c.loop-at.invariant c.loop-at-test.true in
    omega (arith, c.size-size.ensures)

pub loop-at-preserved : goal.loop-at-preserved
loop-at-preserved c = storing_next c.loop-at.invariant c.loop-at-test.true _ c.size-size.ensures c.put_step-i.ensures

pub returns : goal.returns
returns c = storing_all c.loop-at.invariant (omega arith)
