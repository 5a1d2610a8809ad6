-- Before a save in line: the lines of the entries before it, and their names.
use mathlib.Core.Path.{◌≡◌}
use lib.ListN.{length}
use Rattle.sets.specs.Bit.{bit}
use Rattle.clipped.specs.Puts.{writer_at}
use Rattle.waits.proofs.Laws.{Grown}
use Rattle.waits.proofs.queue.Given as goal

abbrev pub invariant-loop-u : goal.invariant-loop-u
invariant-loop-u l = (length l.initial.names.buf.now ≡ 112) × (length l.initial.x_names.buf.now ≡ 112) × Grown (bit l.all) (bit l.xs) l.k l.line (writer_at l.initial.room) l.initial.names l.initial.x_names l.u-index (writer_at l.room) l.names l.x_names
