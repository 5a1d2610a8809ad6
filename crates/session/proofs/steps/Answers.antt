-- What is known of the state before each step is `Looping`; each need is one law.
use Rattle.std.proofs.Common.{◌≡◌, Err, rules, refl}
use native.Mathlib.Omega.{arith}
use Rattle.state.proofs.Lending.{same_first}
use Rattle.session.proofs.Needs.{starts, is_ready, is_rising}
use Rattle.session.proofs.Stepping.{fits, has_size, goes_on, ends, stops}
use Rattle.session.proofs.steps.Goals as goal

pub loop-a-init : goal.loop-a-init
loop-a-init c = (rw c.requires.2 (starts c.requires.0 c.requires.1), same_first c.args.x.now)

pub step_at-requires : goal.step_at-requires
step_at-requires c =
    let o = c.requires.0.opened_well in
    let v = c.loop-a.invariant.0 in
    (v.going.within, is_ready o v, is_rising o v, v.fit)

pub returns-in_err-a-clause-carried : goal.returns-in_err-a-clause-carried
returns-in_err-a-clause-carried c =
    let r : c.from_residual.result ≡ Err c.in_err-a.field-0.0 = search rules in
    rw r (stops c.requires.0.opened_well c.loop-a.x c.step_at.new.x c.step_at.ensures.same.0 c.loop-a.invariant.0 refl c.in_err-a.ensures.stepped)

pub overflow_add-at-in-Some : goal.overflow_add-at-in-Some
overflow_add-at-in-Some c =
    let f = fits c.requires.0.opened_well c.loop-a.x c.step_at.new.x c.step_at.ensures.same.0 c.loop-a.invariant.0 c.in-Some.a c.in-Some.z (rw c.in-Some.is at c.in_ok-a.ensures.stepped) in
    omega arith

pub loop-a-smaller : goal.loop-a-smaller
loop-a-smaller c =
    let o = c.requires.0.opened_well in
    let s = rw c.in-Some.is at c.in_ok-a.ensures.stepped in
    let f = fits o c.loop-a.x c.step_at.new.x c.step_at.ensures.same.0 c.loop-a.invariant.0 c.in-Some.a c.in-Some.z s in
    let z = has_size o c.loop-a.x c.step_at.new.x c.step_at.ensures.same.0 c.loop-a.invariant.0 c.in-Some.a c.in-Some.z s in
    omega arith

pub loop-a-preserved : goal.loop-a-preserved
loop-a-preserved c =
    (goes_on c.requires.0.opened_well c.loop-a.x c.step_at.new.x c.step_at.ensures.same.0 c.loop-a.invariant.0 c.in-Some.a c.in-Some.z (rw c.in-Some.is at c.in_ok-a.ensures.stepped) c.advanced.ensures, search rules)

pub returns-clause-carried : goal.returns-clause-carried
returns-clause-carried c = ends c.requires.0.opened_well c.loop-a.x c.step_at.new.x c.step_at.ensures.same.0 c.loop-a.invariant.0 refl (rw c.in_default.is at c.in_ok-a.ensures.stepped)
