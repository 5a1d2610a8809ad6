-- The room is lent on to `tell`; what is known before each step is `Telling`, and each need is one law.
use Rattle.std.proofs.Common.{rules}
use native.Mathlib.Omega.{arith}
use Rattle.state.proofs.Lending.{same_first}
use Rattle.session.proofs.Needs.{is_ready, is_rising}
use Rattle.session.proofs.Stepping.{fits, has_size}
use Rattle.answers.proofs.Passing.{starts, may_tell, tells, may_refuse, refuses, ends}
use Rattle.answers.proofs.walk.Goals as goal

pub loop-a-init : goal.loop-a-init
loop-a-init c = (starts c.requires c.args.room.now, same_first c.args.x.now)

pub step_at-requires : goal.step_at-requires
step_at-requires c =
    let o = c.requires.opened_well in
    let v = c.loop-a.invariant.0.looping in
    (v.going.within, is_ready o v, is_rising o v, v.fit)

pub returns-in-Ok-None-clause-listed : goal.returns-in-Ok-None-clause-listed
returns-in-Ok-None-clause-listed c =
    rw c.loop-a.invariant.1.0 at (ends c.requires.opened_well c.loop-a.x c.step_at.new.x c.step_at.ensures.same.0 c.loop-a.invariant.0 (rw c.in-Ok-None.field-0-is at c.in-Ok-None.ensures.stepped))

pub tell-count-requires : goal.tell-count-requires
tell-count-requires c =
    rw c.from.ensures (may_tell c.requires.opened_well c.loop-a.x c.step_at.new.x c.step_at.ensures.same.0 c.loop-a.invariant.0 c.in-Ok-Some.a c.in-Ok-Some.z (rw c.in-Ok-Some.field-0-is at c.in-Ok-Some.ensures.stepped))

pub overflow_add-at-in-Ok-Some : goal.overflow_add-at-in-Ok-Some
overflow_add-at-in-Ok-Some c =
    let f = fits c.requires.opened_well c.loop-a.x c.step_at.new.x c.step_at.ensures.same.0 c.loop-a.invariant.0.looping c.in-Ok-Some.a c.in-Ok-Some.z (rw c.in-Ok-Some.field-0-is at c.in-Ok-Some.ensures.stepped) in
    omega arith

pub loop-a-smaller : goal.loop-a-smaller
loop-a-smaller c =
    let o = c.requires.opened_well in
    let s = rw c.in-Ok-Some.field-0-is at c.in-Ok-Some.ensures.stepped in
    let f = fits o c.loop-a.x c.step_at.new.x c.step_at.ensures.same.0 c.loop-a.invariant.0.looping c.in-Ok-Some.a c.in-Ok-Some.z s in
    let z = has_size o c.loop-a.x c.step_at.new.x c.step_at.ensures.same.0 c.loop-a.invariant.0.looping c.in-Ok-Some.a c.in-Ok-Some.z s in
    omega arith

pub loop-a-preserved : goal.loop-a-preserved
loop-a-preserved c =
    (tells c.requires.opened_well c.loop-a.x c.step_at.new.x c.step_at.ensures.same.0 c.loop-a.invariant.0 c.in-Ok-Some.a c.in-Ok-Some.z (rw c.in-Ok-Some.field-0-is at c.in-Ok-Some.ensures.stepped) (rw c.from.ensures at c.tell-count.ensures), search rules)

pub tell-requires : goal.tell-requires
tell-requires c = may_refuse c.requires.opened_well c.loop-a.x c.step_at.new.x c.step_at.ensures.same.0 c.loop-a.invariant.0 c.in-Err.r c.in-Err.ensures.stepped

pub returns-in-Err-clause-listed : goal.returns-in-Err-clause-listed
returns-in-Err-clause-listed c =
    rw c.loop-a.invariant.1.0 at (refuses c.requires.opened_well c.loop-a.x c.step_at.new.x c.step_at.ensures.same.0 c.loop-a.invariant.0 c.in-Err.r c.in-Err.ensures.stepped c.tell.ensures)
