-- A command's own result, with its size: it has a byte of its own beside its operands.
use Rattle.std.proofs.Common.{◌≡◌, ◌-◌, suc, Ok}
use native.Mathlib.Omega.{arith}
use Rattle.wire.specs.Meaning.{command_of}
use Rattle.wire.proofs.Rest.{has_operands}
use Rattle.session.proofs.Needs.{found}
use Rattle.session.proofs.Stepping.{steps_whole}
use Rattle.session.proofs.step_at.Goals as goal

pub returns-in-Ok-clause-stepped : goal.returns-in-Ok-clause-stepped
returns-in-Ok-clause-stepped c =
    let b = c.args.session.now in
    let p = c.args.at in
    let z = c.in-Ok-Some.z in
    let f = found b p (rw c.in-Ok-Some.field-0-is at c.in-Ok-Some.ensures) in
    let n = has_operands b p (command_of c.in-Ok-Some.c) (z - 1) f in
    let e : suc (z - 1) ≡ z = omega arith in
    rw e at (steps_whole b p c.args.x.now c.step.new.x (Ok c.in-Ok.a) f c.in-Ok.ensures.moves c.in-Ok.ensures.kept)
