use Rattle.sets.proofs.Bits.{bit-and}
use Rattle.sets.proofs.both.Goals as goal

pub returns : goal.returns
returns c k = bit-and c.args.x c.args.y k
