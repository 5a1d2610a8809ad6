use mathlib.Core.Path.{sym, ap, ◌∙◌, fun_ext}
use lib.Bits.{bit_and, and_lt}
use Rattle.rules.specs.Table.{any}
use Rattle.sets.proofs.Bits.{bit-and, bit_any}
use Rattle.sets.proofs.meet.Goals as goal

pub returns : goal.returns
returns c = let x = c.args.x in let y = c.args.y in
    sym (bit_any 64 (bit_and x y) (and_lt 64 x y c.ranges.x.fits c.ranges.y.fits)) ∙ ap (any 64) (fun_ext (λ u. bit-and x y u))
