use borrow.Author.Rules.{rules}
use Rattle.sets.specs.Bit.{bit}
use Rattle.sets.proofs.has.Goals as goal

pub returns : goal.returns
unfolding bit
returns c = search rules
