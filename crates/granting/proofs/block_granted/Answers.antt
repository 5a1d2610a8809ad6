-- The words are the same where their members are; then nobody before is in the way.
use mathlib.Core.Path.{◌∙◌}
use borrow.Author.Tests.{ne_eqb}
use Rattle.granting.proofs.Blocks.{not_held, all_held}
use Rattle.granting.proofs.block_granted.Goals as goal

pub returns-then-word : goal.returns-then-word
returns-then-word c = all_held c.args.s.now c.args.q.now c.args.t c.args.j c.word.ensures c.word-2.ensures c.if-word.true c.ways.result c.ways.ensures c.meet.ensures

pub returns-else-word : goal.returns-else-word
returns-else-word c = ne_eqb _ _ c.if-word.false ∙ not_held c.args.s.now c.args.q.now c.args.t c.args.j c.word.ensures c.word-2.ensures c.word.type_inv c.word-2.type_inv c.if-word.false
