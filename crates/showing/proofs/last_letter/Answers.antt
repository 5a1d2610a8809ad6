-- By the test.
use Rattle.state.specs.View.{PLACE}
use borrow.Author.Tests.{eq-eqb, ne_eqb}
use Rattle.state.proofs.Parts.{part_in}
use Rattle.showing.proofs.last_letter.Goals as goal

pub returns-then-last : goal.returns-then-last
returns-then-last c = rw (part_in PLACE 32 c.args.q.now c.args.t c.requires.1, eq-eqb _ _ c.if-last.true)

pub returns-else-last : goal.returns-else-last
returns-else-last c = rw (part_in PLACE 32 c.args.q.now c.args.t c.requires.1, ne_eqb _ _ c.if-last.false)
