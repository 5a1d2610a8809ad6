-- Before t the lines of the first t stand there, in room for as many.
use Prim.Native.Nat.{◌*◌}
use Rattle.rules.specs.Showing.{rising, save_text}
use Rattle.clipped.specs.Puts.{Puts}
use Rattle.showing.specs.Shows.{unstored}
use Rattle.showing.proofs.save_lines.Given as goal

abbrev pub invariant-loop-t : goal.invariant-loop-t
invariant-loop-t l = Puts l.initial.room l.room (rising (save_text (unstored l.x)) l.t) (l.t * 41)
