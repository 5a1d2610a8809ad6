-- Below the limit is at most the byte.
use native.Mathlib.Omega.{arith}
use borrow.Author.Tests.{lt-leb}
use Rattle.forms.proofs.Columns.{first_bad, second_decides}
use Rattle.forms.proofs.Largest.fits.Goals as goal

pub returns-then-x-first : goal.returns-then-x-first
returns-then-x-first c n m b =
    let a = c.args in
    rw c.byte_of-second.ensures (second_decides a.kind.number a.x a.y n m a.self a.kind.known b (omega (arith, c.byte_of-first.ensures)))

pub returns-else-x-first : goal.returns-else-x-first
returns-else-x-first c n m b =
    let a = c.args in
    rw (lt-leb _ _ c.if-x-first.false) (first_bad a.kind.number a.x a.y n m a.self a.kind.known b (omega (arith, c.byte_of-first.ensures)))
