-- Row by row, from the first in line on.
use native.Mathlib.Omega.{arith}
use lib.ListN.{length-set}
use Rattle.rows.proofs.Laws.{row_read, row_more}
use Rattle.rows.proofs.rows_of.Goals as goal

pub loop-i-preserved : goal.loop-i-preserved
loop-i-preserved c =
    let a = c.args in
    let l = c.loop-i in
    (rw length-set l.invariant.0, row_more a.b.now a.line.now l.rows l.i _ (omega arith) c.loop-i-test.true (row_read a.b.now _ _ (c.requires.2 l.i c.loop-i-test.true) c.letter.ensures) l.invariant.1)
