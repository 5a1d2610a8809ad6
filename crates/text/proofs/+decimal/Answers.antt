-- By the number: below 100 it is put straight, else the figures of a hundredth of it and then the last two.
use mathlib.Core.Path.{◌≡◌, ap, ◌∙◌}
use Prim.Native.Nat.{ℕ, ◌+◌, ◌/◌, ◌≤◌}
use native.Mathlib.Omega.{arith}
use lib.ListN.{length, length-append}
use Rattle.rules.specs.Report as report
use Rattle.text.proofs.Writing.{wrote_then, wrote_back}
use Rattle.text.proofs.Figures.{decimal_long, decimal_written}
use borrow.Author.Rules.{rules}
use Rattle.text.proofs.+decimal.Goals as goal

-- the figures before the last two
shorter : (n : ℕ) → 100 ≤ n → length (report.decimal n) ≡ length (report.decimal (n / 100)) + 2
shorter n h = ap length (decimal_long n h) ∙ simp length-append

pub decimal-e-requires : goal.decimal-e-requires
decimal-e-requires t c =
    let e = shorter c.args.n (omega arith) in
    (omega arith, omega arith)

pub last_two-requires : goal.last_two-requires
last_two-requires t c =
    let e = shorter c.args.n (omega arith) in
    omega arith

pub returns : goal.returns
returns t c =
    wrote_back (decimal_written _ c.ranges.n.fits (decimal_long c.args.n (omega arith)) (wrote_then c.decimal-e.ensures c.last_two.ensures.wrote)) (search rules)
