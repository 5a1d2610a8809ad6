-- The words read, and what is made of them.
use Rattle.submits.proofs.Wide.{asked}
use Rattle.submits.proofs.beyond.Goals as goal

pub returns : goal.returns
returns c = asked c.args.s.now c.args.t c.args.j c.minus-c.result c.minus-x.result c.either.result c.word.ensures c.word-2.ensures c.minus-c.ensures c.word-3.ensures c.word-4.ensures c.minus-x.ensures c.either.ensures
