-- Four words, one after the other.
use Rattle.listing.proofs.Words.{four_wrote}
use Rattle.listing.proofs.put_words.Goals as goal

pub returns : goal.returns
returns c = four_wrote c.args.steps.now c.args.i c.args.c c.args.x c.args.y c.args.z
