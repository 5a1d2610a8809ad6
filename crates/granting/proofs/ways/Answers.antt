-- Each claimed sheet adds those in the way there.
use native.Mathlib.Omega.{arith}
use Rattle.granting.proofs.Looking.{going_first, going_end, going_on, digit, inside}
use Rattle.granting.proofs.ways.Goals as goal
use Rattle.granting.proofs.ways.Goals.{then-has, else-has}

pub loop-i-init : goal.loop-i-init
loop-i-init c = rw (c.into_iter-i-iterator.ensures.into_iter_gives, c.members-i-items.ensures) (going_first c.args.s.now c.args.q.now c.args.t c.args.j c.word.ensures c.word.type_inv)

pub has-requires : goal.has-requires
has-requires c = let n = c.in-Some.ensures.steps in digit c.loop-i.invariant n.0 n.1

pub bounds-q-k : goal.bounds-q-k
bounds-q-k c = let n = c.in-Some.ensures.steps in omega (arith, inside c.loop-i.invariant n.0 n.1 c.requires, c.requires.0.queues)

pub bounds-q-k-else-has : goal.bounds-q-k-else-has
bounds-q-k-else-has c = let n = c.in-Some.ensures.steps in omega (arith, inside c.loop-i.invariant n.0 n.1 c.requires, c.requires.0.queues)

pub loop-i-preserved : goal.loop-i-preserved
loop-i-preserved c = let n = c.in-Some.ensures.steps in going_on c.loop-i.invariant n.0 n.1 c.word-xs.ensures c.has.ensures
    (elim c.if-has.branch [ then-has w ↦ rw (w.way'-is, w.if-has.true) | else-has w ↦ rw (w.way'-is, w.if-has.false) ]) c.either-all.ensures n.2

pub returns : goal.returns
returns c = going_end c.loop-i.invariant c.in-None.ensures.steps.0
