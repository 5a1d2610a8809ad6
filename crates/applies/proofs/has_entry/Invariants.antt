-- A turn for each block, up to the first with an entry.
use Prim.Native.Nat.{◌+◌}
use Rattle.state.specs.View.{HELD, OWNED}
use Rattle.state.proofs.Rows.{NoneBefore}
use Rattle.applies.proofs.has_entry.Given as goal

abbrev pub invariant-loop-j : goal.invariant-loop-j
invariant-loop-j l = NoneBefore l.m l.s (HELD + l.t) (OWNED + l.n) l.j
