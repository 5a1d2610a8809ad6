-- The line's start, the line's end.
use native.Mathlib.Omega.{arith}
use Rattle.rules.specs.Showing.{node_line_of}
use Rattle.state.specs.View.{TAKEN}
use Rattle.state.proofs.Parts.{part_in}
use Rattle.text.proofs.Writing.{writes_then}
use Rattle.clipped.proofs.Laws.{writes_within}
use Rattle.showing.proofs.node.Goals as goal

pub returns : goal.returns
unfolding node_line_of
returns c =
    writes_within (rw (part_in TAKEN 8 c.args.q.now c.args.n c.requires.1)) (omega arith) (writes_then c.line_start.ensures c.put.ensures)
