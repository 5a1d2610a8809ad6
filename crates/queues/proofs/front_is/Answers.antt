use mathlib.Core.Path.{◌∙◌}
use borrow.Author.Tests.{eq-eqb}
use Rattle.queues.proofs.Going.{front_none, not_empty, front_has}
use Rattle.queues.proofs.front_is.Goals as goal

pub front-requires : goal.front-requires
front-requires c = (c.requires.0, not_empty c.args.x c.args.y c.ranges.y.fits c.if-y-ne0.true c.requires.2, c.requires.1)

pub returns-then-y-ne0 : goal.returns-then-y-ne0
returns-then-y-ne0 c = c.has.ensures ∙ front_has c.requires.1 c.front.ensures c.args.y c.requires.2

pub returns-else-y-ne0 : goal.returns-else-y-ne0
returns-else-y-ne0 c = rw (eq-eqb c.args.y 0 c.if-y-ne0.false) (front_none c.args.q.now c.args.x c.args.y c.if-y-ne0.false)
