-- A line of three fields under the letter T.
use Rattle.rules.specs.Report as rules
use Rattle.text.proofs.Writer.tally_line.Goals as goal

pub returns : goal.returns
unfolding rules.tally_line
returns c = c.three_line.ensures
