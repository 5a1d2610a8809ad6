-- Block by block.
use native.Mathlib.Omega.{arith}
use Rattle.state.proofs.Rows.{in_reach}
use Rattle.joining.proofs.Claims.{claimed_on, claimed_all}
use Rattle.joining.proofs.claim.Goals as goal

pub loop-j-preserved : goal.loop-j-preserved
loop-j-preserved c = let l = c.loop-j in
    rw (c.set_word-in-loop-j.ensures, c.set_word.ensures) (claimed_on c.args.t l.j c.requires.2 c.args.s.now l.s l.invariant (rw l.invariant.long (in_reach c.args.m c.blocks-j-end.ensures c.loop-j-test.true c.args.s.now c.requires.0 _ (omega (arith, c.requires.2)))) c.either-c.result c.either-x.result c.word.ensures c.word-in-loop-j.ensures c.either-c.ensures c.word-in-loop-j-2.ensures c.word-in-loop-j-3.ensures c.either-x.ensures)

pub returns : goal.returns
returns c = claimed_all c.args.m c.blocks-j-end.ensures c.loop-j.auto.j-end c.loop-j-test.false c.loop-j.invariant
