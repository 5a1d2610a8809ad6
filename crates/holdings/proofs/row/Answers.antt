-- Before sheet k the lines of the first k sheets stand there, in room for as many; before block j those of the blocks in front of it.
use Prim.Native.Nat.{◌+◌, ◌/◌, ◌*◌, ◌≤◌, ◌<◌, min}
use mathlib.Core.Path.{◌≡◌, refl, sym, ◌∙◌}
use native.Mathlib.Omega.{arith}
use Rattle.sets.specs.Bit.{in_row}
use Rattle.clipped.proofs.Laws.{writes_within}
use Rattle.clipped.proofs.Rows.{rising_none, rising_more}
use Rattle.holdings.proofs.Laws.{rising_same, block_empty}
use Rattle.holdings.proofs.row.Goals as goal

pub loop-j-init : goal.loop-j-init
loop-j-init c = let e : min c.args.x.now.m 0 ≡ 0 = omega arith in rw e (rising_none _ _ 52)

pub loop-j-preserved-then-not-some : goal.loop-j-preserved-then-not-some
loop-j-preserved-then-not-some c =
    let m = c.args.x.now.m in
    let j = c.loop-j.j in
    let none = block_empty c.requires.0 c.args.t j c.either-some.result c.requires.1 c.word-claimed.ensures c.word-copied.ensures c.either-some.ensures (sym c.some.ensures ∙ c.if-not-some.true) in
    let e = rising_same _ (min m (64 * j)) (min m (64 * (j + 1))) (omega arith) (λ k l h. none k (omega arith) (omega arith) (omega arith)) in
    writes_within (sym e) (omega arith) c.loop-j.invariant

pub holding-requires : goal.holding-requires
unfolding in_row
holding-requires c =
    let e = c.min-k-end.ensures in
    let low : 64 * c.loop-j.j ≤ c.loop-k.k = omega arith in
    let high : c.loop-k.k < min c.args.x.now.m (64 * c.loop-j.j + 64) = omega (arith, c.loop-k-test.true, e) in
    let kj : c.loop-k.k / 64 ≡ c.loop-j.j = omega arith in
    let km : c.loop-k.k < c.args.x.now.m = omega arith in
    let w = c.loop-k.invariant.wrote in
    (c.requires.0, c.has.ensures ∙ c.either-some.ensures _ ∙ rw (c.word-claimed.ensures, c.word-copied.ensures, kj) refl, c.requires.1, km, omega (arith, c.requires.2, w.ends, w.short))

pub loop-k-preserved : goal.loop-k-preserved
loop-k-preserved c = rising_more _ 52 c.loop-k.k c.loop-k.invariant c.holding.ensures
