-- Byte by byte: before byte i the first i stand there.
use mathlib.Core.Path.{◌≡◌}
use Prim.Native.Nat.{◌+◌}
use lib.ListN.{take, length}
use Rattle.text.specs.Wrote.{Wrote}
use Rattle.clipped.proofs.Room.append.Given as goal

abbrev pub invariant-loop-i : goal.invariant-loop-i
invariant-loop-i l = record {
  place : l.self.at ≡ l.initial.self.at;
  same : l.self.bytes.ghost_name ≡ l.initial.self.bytes.ghost_name;
  long : length l.self.bytes.now ≡ length l.initial.self.bytes.now;
  stored : Wrote l.initial.self.bytes.now l.initial.self.at (take l.i l.text) l.i (l.initial.self.at + l.i) l.self.bytes.now;
}
