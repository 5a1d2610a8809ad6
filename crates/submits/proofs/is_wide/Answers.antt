-- Block by block, to the first that asks for more.
use Rattle.submits.proofs.Wide.{narrow_on, not_wide, one_wide}
use Rattle.submits.proofs.is_wide.Goals as goal

pub returns-then-beyond-ne0 : goal.returns-then-beyond-ne0
returns-then-beyond-ne0 c = one_wide c.requires.3 c.args.t c.requires.2 c.loop-j.j c.blocks-j-end.ensures c.loop-j-test.true c.beyond.type_inv c.beyond.ensures c.if-beyond-ne0.true

pub loop-j-preserved : goal.loop-j-preserved
loop-j-preserved c = narrow_on c.args.s.now c.args.t c.loop-j.j c.loop-j.invariant c.beyond.ensures c.if-beyond-ne0.false

pub returns : goal.returns
returns c = not_wide c.requires.3 c.args.t c.requires.2 c.blocks-j-end.ensures c.loop-j-test.false c.loop-j.invariant
