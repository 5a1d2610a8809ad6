-- The answer's number; the theorems are the rules'.
use native.Mathlib.Omega.{arith}
use Rattle.rules.specs.Writing as lists
use Rattle.rules.proofs.Writing.{written_read, words_again, one_writing, one_list}
use Rattle.rules.proofs.AgreeingSteps.{writes_as_run, written_runs}
use Rattle.wire.specs.Refusing.{refused_at}
use Rattle.codes.proofs.Laws.{call_told, few_numbers}
use Rattle.cusphewa.proofs.cusphewa_write.Goals as goal

pub returns-in-Ok : goal.returns-in-Ok
returns-in-Ok c =
    let s = c.in-Ok.ensures.small in
    let t = call_told (lists.wrote c.in-Ok.n) (omega arith) c.in-Ok.ensures.session_after c.code.ensures in
    record {
      session_after = t.0;
      decoded = t.1;
      read_again = written_read _ _;
      words_again = words_again _ c.args.steps.now;
      one_writing = one_writing _ _;
      one_list = one_list _ _;
      as_run = writes_as_run;
      runs = written_runs _ _;
    }

pub returns-in-Err : goal.returns-in-Err
returns-in-Err c =
    let r = c.in-Err.r in
    let t = call_told (lists.refuse_with (refused_at r)) (few_numbers r.why) c.in-Err.ensures.session_after c.refusal_code.ensures.value in
    record {
      session_after = t.0;
      decoded = t.1;
      read_again = written_read _ _;
      words_again = words_again _ c.args.steps.now;
      one_writing = one_writing _ _;
      one_list = one_list _ _;
      as_run = writes_as_run;
      runs = written_runs _ _;
    }
