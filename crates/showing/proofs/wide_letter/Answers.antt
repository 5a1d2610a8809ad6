-- By the phase, then by the test of the run.
use borrow.Author.Tests.{ne_eqb}
use Rattle.showing.proofs.Laws.{later_is}
use Rattle.showing.proofs.wide_letter.Goals as goal
use Rattle.showing.proofs.wide_letter.Goals.{else-later-via-then-later+else-is_wide, else-later-via-else-later}

pub returns-then-is_wide : goal.returns-then-is_wide
returns-then-is_wide c = rw (later_is c.args.x.now.bytes.now c.args.t c.requires.1, c.if-later.true, ← c.is_wide.ensures, c.if-is_wide.true)

pub returns-else-later : goal.returns-else-later
returns-else-later c =
    rw (later_is c.args.x.now.bytes.now c.args.t c.requires.1) (elim c.else-later.branch [
      | else-later-via-then-later+else-is_wide w ↦ rw (w.if-later.true, ← w.is_wide.ensures, w.if-is_wide.false)
      | else-later-via-else-later w ↦ rw (ne_eqb _ _ w.if-later.false)
    ])
