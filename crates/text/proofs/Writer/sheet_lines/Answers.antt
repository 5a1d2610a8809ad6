-- Before sheet k the lines of the first k sheets stand there, in room for as many.
use native.Mathlib.Omega.{arith}
use Rattle.rules.specs.Report as rules
use Rattle.text.proofs.Writing.{writes_none, writes_next}
use Rattle.text.proofs.Lines.{sheet_more}
use Rattle.text.proofs.Writer.sheet_lines.Goals as goal

pub loop-k-init : goal.loop-k-init
unfolding rules.sheet_lines
loop-k-init c = writes_none _

pub loop-k-preserved : goal.loop-k-preserved
unfolding rules.sheet_line
loop-k-preserved c = writes_next (sheet_more c.args.m c.args.w.now c.loop-k.k) c.loop-k.invariant c.three_line.ensures (omega arith)
