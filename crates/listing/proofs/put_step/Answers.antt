-- As many bytes as the longest step has, or its own alone.
use native.Mathlib.Omega.{arith}
use Rattle.wire.proofs.Front.{read_be}
use Rattle.forms.proofs.Shapes.{size_small}
use Rattle.listing.proofs.Words.{as_step}
use Rattle.listing.proofs.Operands.{step_whole, step_last}
use Rattle.listing.proofs.put_step.Goals as goal

pub bounds-session-at-2 : goal.bounds-session-at-2
bounds-session-at-2 c = omega (arith, size_small _ c.requires.1)

pub second-requires : goal.second-requires
second-requires c =
    let s = size_small _ c.requires.1 in
    (omega (arith, c.size-size.ensures), omega (arith, c.size-size.ensures))

pub returns-then-session-at-lt-LONGEST : goal.returns-then-session-at-lt-LONGEST
returns-then-session-at-lt-LONGEST c =
    let y = rw c.size-size.ensures at c.second.ensures in
    as_step (step_last c.args.session.now c.args.at c.requires.1 c.requires.2 _ y c.if-session-at-lt-LONGEST.true) c.put_words.ensures

pub returns : goal.returns
returns c =
    let w = c.size-size.ensures in
    let y = rw w at c.only_if-y.ensures in
    let z = rw (w, c.from_be_bytes-v.ensures, read_be) at c.only_if.ensures in
    as_step (step_whole c.args.session.now c.args.at c.requires.1 c.requires.2 _ _ y z) c.put_words-2.ensures
