-- The letter, then the two fields.
use Rattle.text.proofs.Writing.{writes_then}
use Rattle.text.proofs.Writer.open_line.Goals as goal

pub returns : goal.returns
returns c = writes_then c.put.ensures (writes_then c.field.ensures c.field-2.ensures)
