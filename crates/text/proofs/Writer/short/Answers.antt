-- Below 10 it is one figure, else two.
use mathlib.Core.Path.{ap}
use native.Mathlib.Omega.{arith}
use lib.ListN.{length}
use Rattle.text.proofs.Figures.{decimal_low, decimal_two, decimal_writes}
use Rattle.text.proofs.Writer.short.Goals as goal

pub put-requires : goal.put-requires
put-requires c =
    let e = ap length (decimal_low c.args.n (omega arith)) in
    omega arith

pub returns-then-n-lt10 : goal.returns-then-n-lt10
returns-then-n-lt10 c =
    decimal_writes _ c.ranges.n.fits (decimal_low c.args.n (omega arith)) c.put.ensures

pub last_two-requires : goal.last_two-requires
last_two-requires c =
    let e = ap length (decimal_two c.args.n (omega arith) (omega arith)) in
    omega arith

pub returns : goal.returns
returns c =
    decimal_writes _ c.ranges.n.fits (decimal_two c.args.n (omega arith) (omega arith)) c.last_two.ensures
