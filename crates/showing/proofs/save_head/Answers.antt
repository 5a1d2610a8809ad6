-- The letter, the save, its phase, its runs.
use Rattle.rules.specs.Showing.{save_head}
use Rattle.text.proofs.Writing.{writes_then}
use Rattle.showing.proofs.save_head.Goals as goal

pub returns : goal.returns
unfolding save_head
returns c = writes_then c.put.ensures (writes_then (writes_then c.field.ensures (rw c.phase_letter.ensures at c.letter.ensures)) c.field-2.ensures)
