-- A turn for each block.
use Prim.Native.Nat.{◌+◌}
use native.Mathlib.Omega.{arith}
use Rattle.state.specs.View.{OWNED, WRITTEN}
use Rattle.state.proofs.Rows.{in_blocks, ours_inside}
use Rattle.storing.proofs.Carry.{carried_on, carried_end, rises_on}
use Rattle.storing.proofs.carry_out.Goals as goal

pub store_block-requires : goal.store_block-requires
store_block-requires c = let e = c.blocks-j-end.ensures in let l = c.loop-j-test.true in (c.requires.1, rw c.loop-j.invariant.got.long c.requires.2, c.requires.3, c.requires.5, in_blocks c.args.m e l, ours_inside c.args.m c.args.s.now e l (OWNED + c.args.n) (WRITTEN + c.args.t) c.word-owned.result c.word.result c.word-owned.ensures c.word.ensures c.requires.6 (omega (arith, c.requires.4)) c.both-ours.result c.both-ours.ensures, rises_on c.loop-j.invariant c.requires.7)

pub loop-j-preserved : goal.loop-j-preserved
loop-j-preserved c = carried_on c.loop-j.invariant c.blocks-j-end.ensures c.loop-j-test.true c.word-owned.result c.word.result c.word-owned.ensures c.word.ensures c.both-ours.result c.both-ours.ensures c.store_block.ensures

pub returns : goal.returns
returns c = carried_end c.loop-j.invariant c.blocks-j-end.ensures c.loop-j-test.false
