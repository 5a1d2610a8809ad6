use Rattle.sets.proofs.Bits.{bit_without}
use Rattle.sets.proofs.without.Goals as goal

pub returns : goal.returns
returns c k = bit_without c.args.x c.args.k k c.requires c.ranges.x.fits
