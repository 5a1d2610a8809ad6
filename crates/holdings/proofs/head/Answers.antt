-- The line's start, the claim's letter, the mark's.
use Rattle.rules.specs.Showing.{holding_head}
use Rattle.text.proofs.Writing.{writes_then}
use Rattle.holdings.proofs.head.Goals as goal

pub returns : goal.returns
unfolding holding_head
returns c = writes_then (writes_then c.line_start.ensures (rw c.claim_letter.ensures at c.letter.ensures)) (rw c.mark_letter.ensures at c.letter-2.ensures)
