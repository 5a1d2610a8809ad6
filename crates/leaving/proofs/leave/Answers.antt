-- A turn for each block.
use Rattle.leaving.proofs.Leaving.{inside, blocks_on, blocks_end}
use Rattle.leaving.proofs.leave.Goals as goal

pub leave_block-requires : goal.leave_block-requires
leave_block-requires c = let p = c.requires in let g = c.loop-j.invariant in let e = c.blocks-j-end.ensures in let l = c.loop-j-test.true in (rw g.gone.long p.1, p.2, p.3, rw e at l, inside g e l p.3 p.4 c.word-h.result c.word.result c.both-ours.result c.word-h.ensures c.word.ensures c.both-ours.ensures p.5)

pub loop-j-preserved : goal.loop-j-preserved
loop-j-preserved c = let p = c.requires in let g = c.loop-j.invariant in let e = c.blocks-j-end.ensures in let l = c.loop-j-test.true in blocks_on g e l p.3 p.4 c.word-h.result c.word.result c.both-ours.result c.word-h.ensures c.word.ensures c.both-ours.ensures c.minus.result c.minus.ensures c.set_word.ensures c.leave_block.ensures p.0

pub returns : goal.returns
returns c = let p = c.requires in blocks_end c.loop-j.invariant c.blocks-j-end.ensures c.loop-j-test.false p.3 p.5
