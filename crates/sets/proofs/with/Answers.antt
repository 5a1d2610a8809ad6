use Rattle.sets.proofs.Bits.{bit_with}
use Rattle.sets.proofs.with.Goals as goal

pub returns : goal.returns
returns c k = bit_with c.args.x c.args.k k c.requires
