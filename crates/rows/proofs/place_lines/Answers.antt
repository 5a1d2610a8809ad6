-- None at first, then one row on.
use Rattle.rows.proofs.Laws.{row_none, row_on}
use Rattle.rows.proofs.place_lines.Goals as goal

pub loop-r-init : goal.loop-r-init
loop-r-init c = row_none c.args.rows.now _

pub loop-r-preserved : goal.loop-r-preserved
loop-r-preserved c = row_on c.args.rows.now c.loop-r.r-index c.loop-r-test.true c.loop-r.invariant c.place_line.ensures
