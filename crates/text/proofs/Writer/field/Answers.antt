-- A u32 has at most 10 figures.
use native.Mathlib.Omega.{arith}
use Rattle.rules.specs.Report as rules
use Rattle.text.proofs.Figures.{decimal_short}
use Rattle.text.proofs.Writing.{wrote_then, writes_then, wrote_length}
use Rattle.text.proofs.Writer.field.Goals as goal
use mathlib.Core.Path.{◌∙◌}

pub short-requires : goal.short-requires
short-requires c =
    let f = decimal_short 9 c.args.n (omega arith) in
    (omega arith, omega arith)

pub returns-then-n-lt100 : goal.returns-then-n-lt100
unfolding rules.field
returns-then-n-lt100 c = writes_then c.put.ensures c.short.ensures

pub decimal-self-requires : goal.decimal-self-requires
decimal-self-requires c =
    let f = decimal_short 9 c.args.n (omega arith) in
    omega arith

pub returns : goal.returns
unfolding rules.field
returns c =
    let p = c.put.ensures in
    let q = c.decimal-self.ensures in
    record { same = p.same; long = wrote_length q ∙ p.long; wrote = wrote_then p.wrote q }
