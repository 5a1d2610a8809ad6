use Rattle.sets.proofs.Bits.{bit-or}
use Rattle.sets.proofs.either.Goals as goal

pub returns : goal.returns
returns c k = bit-or c.args.x c.args.y k
