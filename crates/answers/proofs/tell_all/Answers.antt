-- A room for any list has it at once; else the number of answers first, then the answers.
use native.Mathlib.Omega.{arith}
use Prim.Native.Nat.{◌≤◌}
use lib.ListN.{length}
use Rattle.wire.proofs.Opening.{opening, header_within}
use Rattle.answers.proofs.Lists.{all_told, same_many}
use Rattle.answers.proofs.tell_all.Goals as goal
use Rattle.answers.proofs.tell_all.Goals.{then-room-most+else-room-n, else-room-most}

pub overflow_sub-most : goal.overflow_sub-most
overflow_sub-most c = omega (arith, header_within (opening c.args.session.now c.args.header c.requires))

pub overflow_sub-most-2 : goal.overflow_sub-most-2
overflow_sub-most-2 c = omega (arith, header_within (opening c.args.session.now c.args.header c.requires))

pub returns-clause-room_after : goal.returns-clause-room_after
returns-clause-room_after c =
    let h : c.pass.result ≤ length c.args.room.now =
    elim c.if-room-most.branch [ then-room-most+else-room-n w ↦ omega (arith, same_many w.pass-n.ensures c.pass.ensures, w.if-room-n.false) | else-room-most w ↦ omega (arith, w.if-room-most.false, c.pass.ensures.few) ] in
    all_told c.pass.ensures h
