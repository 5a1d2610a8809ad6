-- The opening, then a blank, the letter and the line's end.
use Rattle.rules.specs.Report as rules
use Rattle.text.proofs.Writing.{writes_then}
use Rattle.text.proofs.Writer.place_line.Goals as goal

pub returns : goal.returns
unfolding rules.place_line
returns c = writes_then c.open_line.ensures (writes_then c.put.ensures (writes_then c.put-2.ensures c.put-3.ensures))
