-- The content, the counter, the letter.
use Rattle.rules.specs.Showing.{copy_fields}
use Rattle.text.proofs.Writing.{writes_then}
use Rattle.holdings.proofs.fields.Goals as goal

pub returns : goal.returns
unfolding copy_fields
returns c = writes_then (writes_then c.field.ensures c.field-2.ensures) (rw c.behind_letter.ensures at c.letter.ensures)
