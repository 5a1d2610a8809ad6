-- A number for each verdict, which gives it back.
use Prim.Native.Nat.{◌<◌}
use mathlib.Core.Path.{◌≡◌}
use native.Mathlib.Omega.{arith}
use borrow.Author.Rules.{rules}
use Rattle.rules.specs.Calls.{answers}
use Rattle.rules.specs.Steps.{took, valid, invalid}
use Rattle.state.specs.View.{cause_of}
use Rattle.codes.specs.Codes.{verdict_code}
use Rattle.codes.proofs.Decoding.{decoded}
use Rattle.codes.proofs.take_code.Goals as goal

pub returns-in-Valid-clause-decoded : goal.returns-in-Valid-clause-decoded
returns-in-Valid-clause-decoded c = rw c.in-Valid.is ((decoded (answers (took c.args.t valid)) (omega arith) c.code.ensures).1)

pub returns-in-Invalid-clause-decoded : goal.returns-in-Invalid-clause-decoded
returns-in-Invalid-clause-decoded c =
    let near : c.in-Invalid.cause.sheet < 65536 = rw c.in-Invalid.is at c.requires in
    let v : c.code-in-Invalid.result ≡ verdict_code c.args.t (invalid (cause_of c.in-Invalid.cause)) = search rules in
    rw c.in-Invalid.is ((decoded (answers (took c.args.t (invalid (cause_of c.in-Invalid.cause)))) (let f = c.ranges in omega arith, near) v).1)
