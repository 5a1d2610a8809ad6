-- A blank, then the letter.
use Rattle.rules.specs.Showing.{lettered}
use Rattle.text.proofs.Writing.{writes_then}
use Rattle.clipped.proofs.Room.letter.Goals as goal

pub returns : goal.returns
unfolding lettered
returns c = writes_then c.put.ensures c.put-2.ensures
