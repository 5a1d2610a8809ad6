-- The opening and the line's end.
use Rattle.rules.specs.Report as rules
use Rattle.text.proofs.Writing.{writes_then}
use Rattle.text.proofs.Writer.refusal_line.Goals as goal

pub returns : goal.returns
unfolding rules.refusal_line
returns c = writes_then c.open_line.ensures c.put.ensures
