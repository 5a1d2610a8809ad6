-- No line, or its parts one after the other.
use Rattle.text.proofs.Writing.{writes_nothing, writes_then}
use Rattle.holdings.proofs.Laws.{no_line, line_of}
use Rattle.holdings.proofs.holding.Goals as goal

pub returns-then-not-there : goal.returns-then-not-there
returns-then-not-there c = writes_nothing _ (no_line c.requires.0 c.args.t c.args.k c.requires.2 c.requires.3 c.requires.1 c.if-not-there.true)

pub returns : goal.returns
returns c =
    let e = line_of c.requires.0 c.args.t c.args.k c.requires.2 c.requires.3 c.requires.1 c.if-not-there.false in
    rw e at (writes_then (writes_then c.head.ensures c.copy.ensures) c.put.ensures)
