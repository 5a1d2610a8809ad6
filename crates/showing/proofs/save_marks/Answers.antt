-- The two letters.
use Rattle.rules.specs.Showing.{save_marks}
use Rattle.text.proofs.Writing.{writes_then}
use Rattle.showing.proofs.save_marks.Goals as goal

pub returns : goal.returns
unfolding save_marks
returns c = writes_then (rw c.failed_letter.ensures at c.letter.ensures) (rw c.wide_letter.ensures at c.letter-2.ensures)
