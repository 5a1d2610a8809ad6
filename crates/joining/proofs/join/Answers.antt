-- Each change in turn.
use Rattle.joining.proofs.join.Goals as goal

pub returns : goal.returns
returns c = record { claimed = c.claim.ensures; placing = c.take_place.ensures }
