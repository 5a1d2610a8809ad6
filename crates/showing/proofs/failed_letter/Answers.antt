-- By the mark.
use Rattle.state.specs.View.{FAILED}
use Rattle.state.proofs.Parts.{part_in}
use borrow.Author.Tests.{eq-eqb, ne_eqb}
use Rattle.showing.proofs.failed_letter.Goals as goal

pub returns-then-b-t-eq0 : goal.returns-then-b-t-eq0
returns-then-b-t-eq0 c = rw (part_in FAILED 32 c.args.b.now c.args.t c.requires.1, eq-eqb _ _ c.if-b-t-eq0.true)

pub returns-else-b-t-eq0 : goal.returns-else-b-t-eq0
returns-else-b-t-eq0 c = rw (part_in FAILED 32 c.args.b.now c.args.t c.requires.1, ne_eqb _ _ c.if-b-t-eq0.false)
