-- Past the room's end nothing is written; else the field is made aside, and copied as far as it fits.
use native.Mathlib.Omega.{arith}
use borrow.Author.Rules.{rules}
use Rattle.text.proofs.Writing.{wrote_back}
use Rattle.clipped.proofs.Laws.{copied, field_past}
use Rattle.clipped.proofs.field_aside.Goals as goal

pub returns-then-bytes-at : goal.returns-then-bytes-at
returns-then-bytes-at c = field_past c.args.n c.field_size.ensures.size c.field_size.ensures.small c.if-bytes-at.true

pub returns : goal.returns
returns c = wrote_back (copied c.field.ensures.wrote (omega arith) c.append.ensures.wrote c.written.ensures) (search rules)
