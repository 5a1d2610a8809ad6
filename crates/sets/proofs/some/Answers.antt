use mathlib.Core.Path.{sym}
use Rattle.sets.proofs.Bits.{bit_any}
use Rattle.sets.proofs.some.Goals as goal

pub returns : goal.returns
returns c = sym (bit_any 64 c.args.x c.ranges.x.fits)
