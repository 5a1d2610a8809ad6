use Rattle.sets.proofs.Bits.{bit_minus}
use Rattle.sets.proofs.minus.Goals as goal

pub returns : goal.returns
returns c k = bit_minus c.args.x c.args.y k c.ranges.x.fits c.ranges.y.fits
