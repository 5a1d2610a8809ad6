-- No line, or its parts.
use mathlib.Core.Path.{refl}
use Rattle.text.proofs.Writing.{writes_nothing}
use Rattle.showing.proofs.Laws.{unused_text, save_is}
use Rattle.showing.proofs.save.Goals as goal

pub returns-then-p-eq-UNUSED : goal.returns-then-p-eq-UNUSED
returns-then-p-eq-UNUSED c =
    let x = c.args.x.now in
    writes_nothing _ (unused_text x.m x.bytes.now x.sets.now c.args.t c.requires.2 refl x.queues.now c.if-p-eq-UNUSED.true)

pub returns : goal.returns
returns c =
    let x = c.args.x.now in
    save_is x.m x.bytes.now x.sets.now c.args.t c.requires.2 refl x.queues.now c.if-p-eq-UNUSED.false
    c.save_head.ensures c.save_marks.ensures c.save_place.ensures c.put.ensures
