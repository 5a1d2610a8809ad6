-- Before sheet k the lines of the first k sheets stand there, in room for as many; before block j those of the blocks in front of it.
use Prim.Native.Nat.{◌*◌, min}
use Rattle.rules.specs.Showing.{rising, holding_text}
use Rattle.clipped.specs.Puts.{Puts}
use Rattle.holdings.specs.Held.{held_by}
use Rattle.holdings.proofs.row.Given as goal

abbrev pub invariant-loop-j : goal.invariant-loop-j
invariant-loop-j l = Puts l.fn.room l.room (rising (holding_text (held_by l.x) l.t) (min l.x.m (64 * l.j))) (min l.x.m (64 * l.j) * 52)

abbrev pub invariant-loop-k : goal.invariant-loop-k
invariant-loop-k l = Puts l.fn.room l.room (rising (holding_text (held_by l.x) l.t) l.k) (l.k * 52)
