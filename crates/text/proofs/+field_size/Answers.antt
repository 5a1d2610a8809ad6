-- A figure alone, or one more than a tenth of the number has.
use mathlib.Core.Path.{sym}
use native.Mathlib.Omega.{arith}
use Rattle.text.proofs.Figures.{field_low, field_high, field_short}
use Rattle.text.proofs.+field_size.Goals as goal

pub returns-then-n-ge10-clause-size : goal.returns-then-n-ge10-clause-size
returns-then-n-ge10-clause-size t c = omega (arith, field_high c.args.n c.if-n-ge10.true, c.field_size.ensures.size)

pub returns-then-n-ge10-clause-small : goal.returns-then-n-ge10-clause-small
returns-then-n-ge10-clause-small t c = omega (arith, field_high c.args.n c.if-n-ge10.true, field_short c.args.n c.ranges.n.fits, c.field_size.ensures.size)

pub returns-clause-size : goal.returns-clause-size
returns-clause-size t c = sym (field_low c.args.n (omega arith))
