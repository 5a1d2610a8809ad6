-- The opening, a field, the line's end.
use Rattle.text.proofs.Writing.{writes_then}
use Rattle.text.proofs.Writer.three_line.Goals as goal

pub returns : goal.returns
returns c = writes_then (writes_then c.open_line.ensures c.field.ensures) c.put.ensures
