-- Before save t the lines of the first t saves stand there, in room for as many.
use Prim.Native.Nat.{◌*◌}
use Rattle.rules.specs.Showing.{rising, holding_text}
use Rattle.clipped.specs.Puts.{Puts}
use Rattle.holdings.specs.Held.{held_by}
use Rattle.holdings.proofs.lines.Given as goal

abbrev pub invariant-loop-t : goal.invariant-loop-t
invariant-loop-t l = Puts l.initial.room l.room (rising (λ u. rising (holding_text (held_by l.x) u) l.x.m) l.t) (l.t * (52 * l.x.m))
