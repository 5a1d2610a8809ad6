-- A turn for each block, up to the first with an entry.
use Prim.Native.Nat.{◌+◌}
use mathlib.Core.Path.{sym}
use native.Mathlib.Omega.{arith}
use Rattle.state.specs.View.{HELD, OWNED}
use Rattle.state.proofs.Rows.{none_here, none_at_all, some_here}
use Rattle.applies.proofs.has_entry.Goals as goal

pub returns-then-meet : goal.returns-then-meet
returns-then-meet c = sym (some_here c.args.m c.args.s.now c.blocks-j-end.ensures c.loop-j-test.true (HELD + c.args.t) (OWNED + c.args.n) c.word-held.result c.word.result c.word-held.ensures c.word.ensures c.meet.ensures c.requires.4 (omega (arith, c.requires)) c.if-meet.true)

pub loop-j-preserved : goal.loop-j-preserved
loop-j-preserved c = none_here c.args.m c.args.s.now c.blocks-j-end.ensures c.loop-j-test.true (HELD + c.args.t) (OWNED + c.args.n) c.word-held.result c.word.result c.word-held.ensures c.word.ensures c.meet.ensures c.loop-j.invariant c.if-meet.false

pub returns : goal.returns
returns c = sym (none_at_all c.blocks-j-end.ensures c.loop-j-test.false c.loop-j.invariant)
