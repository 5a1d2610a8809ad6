-- The tests in turn.
use borrow.Author.Tests.{lt-ltb, le-ltb}
use Rattle.std.proofs.lemmas.Result.{err_from_is_err_and}
use Rattle.copies.specs.Barred.{barred_by}
use Rattle.copies.proofs.Copying.{barred_run}
use Rattle.copies.proofs.barred.Goals as goal

pub returns-in_err-i : goal.returns-in_err-i
unfolding barred_by
returns-in_err-i c =
    let p = err_from_is_err_and c.from_residual.result c.from_residual.ensures.1 in
    let e = c.in_err-i.ensures in
    rw (p.1, p.2, e.1, le-ltb _ _ e.0)

pub returns-then-x-k : goal.returns-then-x-k
unfolding barred_by
returns-then-x-k c = rw (lt-ltb _ _ c.in_ok-i.ensures.1, le-ltb _ _ c.if-x-k.true)

pub returns : goal.returns
returns c = let x = c.args.x.now in barred_run x.m x.bytes.now c.args.t c.args.k c.in_ok-i.ensures c.if-x-k.false c.in_run.result c.in_run.ensures
