-- The letter, then the two fields.
use Rattle.rules.specs.Showing.{opening}
use Rattle.text.proofs.Writing.{writes_then}
use Rattle.clipped.proofs.Room.line_start.Goals as goal

pub returns : goal.returns
unfolding opening
returns c = writes_then c.put.ensures (writes_then c.field.ensures c.field-2.ensures)
