-- Place by place: the saves whose last place was passed.
use mathlib.Core.Path.{refl}
use Rattle.rows.proofs.Lines.{lined_none, save_at, small, there, lined_on, lined_same}
use borrow.Author.Rules.{rules}
use Rattle.rows.proofs.line_of.Goals as goal
use Rattle.rows.proofs.line_of.Goals.{then-last-p, else-last-p}

pub loop-p-init : goal.loop-p-init
loop-p-init c = lined_none c.args.x.now.bytes.now c.args.x.now.queues.now c.args.line.now c.requires.1

pub bounds-x-t : goal.bounds-x-t
bounds-x-t c =
    let g = c.loop-p in
    let z = small c.requires.0 g.invariant c.loop-p-test.true (save_at c.args.x.now.bytes.now g.p refl) in
    search rules

pub bounds-line-n : goal.bounds-line-n
bounds-line-n c =
    let g = c.loop-p in
    let z = there c.requires.0 g.invariant c.loop-p-test.true (save_at c.args.x.now.bytes.now g.p refl) c.if-last-p.true in
    search rules

pub loop-p-preserved : goal.loop-p-preserved
loop-p-preserved c =
    let g = c.loop-p in
    let k = c.loop-p-test.true in
    let e = save_at c.args.x.now.bytes.now g.p refl in
    elim c.if-last-p.branch [ then-last-p w ↦ rw (w.line-is, w.n-is) (lined_on c.requires.0 g.invariant k e w.if-last-p.true) | else-last-p w ↦ rw (w.line-is, w.n-is) (lined_same c.requires.0 g.invariant k e w.if-last-p.false) ]
