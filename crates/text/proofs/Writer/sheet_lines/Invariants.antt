-- Before sheet k the lines of the first k sheets stand there, in room for as many.
use Prim.Native.Nat.{◌*◌}
use Rattle.rules.specs.Report as rules
use Rattle.text.specs.Writes.{Writes}
use Rattle.text.specs.Lines.{sheets_of}
use Rattle.text.proofs.Writer.sheet_lines.Given as goal

abbrev pub invariant-loop-k : goal.invariant-loop-k
invariant-loop-k l = Writes l.initial.self l.self (rules.sheet_lines (sheets_of l.m l.w) l.k) (35 * l.k)
