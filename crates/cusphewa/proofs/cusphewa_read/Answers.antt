-- The answer's number; the theorems are the rules', of a slice's bytes.
use native.Mathlib.Omega.{arith}
use Rattle.rules.specs.Writing as lists
use Rattle.wire.specs.Refusing.{refused_at}
use Rattle.codes.proofs.Laws.{call_told, few_numbers}
use Rattle.cusphewa.proofs.Lists.{of_bytes}
use Rattle.cusphewa.proofs.cusphewa_read.Goals as goal

pub returns-in-Ok : goal.returns-in-Ok
returns-in-Ok c =
    let l = c.in-Ok.l in
    let s = c.in-Ok.ensures.small in
    let t = call_told (lists.listed l.nodes l.sheets l.steps) (omega arith, omega arith, omega arith) c.in-Ok.ensures.steps_after c.code.ensures in
    let b = of_bytes _ (λ i. omega (arith, c.type_inv.session i)) in
    record {
      steps_after = t.0;
      decoded = t.1;
      written_again = b.0;
      run = b.1.0;
      agrees = b.1.1.0;
      few = b.1.1.1;
    }

pub returns-in-Err : goal.returns-in-Err
returns-in-Err c =
    let r = c.in-Err.r in
    let t = call_told (lists.refuse_with (refused_at r)) (few_numbers r.why) c.in-Err.ensures.steps_after c.refusal_code.ensures.value in
    let b = of_bytes _ (λ i. omega (arith, c.type_inv.session i)) in
    record {
      steps_after = t.0;
      decoded = t.1;
      written_again = b.0;
      run = b.1.0;
      agrees = b.1.1.0;
      few = b.1.1.1;
    }
