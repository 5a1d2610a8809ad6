-- The line's start, the letter, the line's end.
use mathlib.Core.Path.{refl}
use native.Mathlib.Omega.{arith}
use Rattle.rules.specs.Showing.{order_line_of}
use Rattle.text.proofs.Writing.{writes_then}
use Rattle.clipped.proofs.Laws.{writes_within}
use Rattle.showing.proofs.Laws.{save_small, order_is}
use Rattle.showing.proofs.place.Goals as goal

pub last_letter-requires : goal.last_letter-requires
last_letter-requires c = (c.requires.0.ordered.numbers, save_small c.requires.0.ordered c.args.p c.requires.1)

pub returns : goal.returns
unfolding order_line_of
returns c =
    writes_within (order_is c.requires.0.ordered c.args.p c.requires.1 refl) (omega arith)
    (writes_then (writes_then c.line_start.ensures (rw c.last_letter.ensures at c.letter.ensures)) c.put.ensures)
