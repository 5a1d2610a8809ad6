-- Before a save in line: the lines of the entries before it, and their names.
use mathlib.Core.Path.{refl, sym, ◌∙◌}
use native.Mathlib.Omega.{arith}
use Rattle.waits.proofs.Laws.{grown_none, grown_past, grown_x, grown_s}
use Rattle.waits.proofs.queue.Goals as goal
use Rattle.waits.proofs.queue.Goals.{then-has, then-has-2, else-has-2, else-has}

pub loop-u-init : goal.loop-u-init
loop-u-init c = (refl, refl, grown_none _ _ c.args.k c.args.line.now _ _ _)

pub loop-u-preserved : goal.loop-u-preserved
loop-u-preserved c =
    let v = c.loop-u.invariant in
    let t = c.loop-u-test.true in
    let u = c.requires.3 c.loop-u.u-index t in (
      v.0,
      v.1,
      elim c.if-has.branch [
        | then-has w ↦
            let y = sym c.has.ensures ∙ w.if-has.true in
            rw (w.room-is, w.names-is, w.x_names-is) (elim w.if-has-2.branch [
              | then-has-2 z ↦ rw (z.room-is, z.x_names-is) (grown_x v.2 t u y w.field-then-has.ensures (sym w.has-then-has.ensures ∙ z.if-has-2.true) refl (omega arith) z.written.ensures z.entry.ensures z.field.ensures)
              | else-has-2 z ↦ rw (z.room-is, z.x_names-is) (grown_s v.2 t u y w.field-then-has.ensures (sym w.has-then-has.ensures ∙ z.if-has-2.false) refl (omega arith) z.written-else-has-2.ensures z.entry-else-has-2.ensures)
            ])
        | else-has w ↦ rw (w.room-is, w.names-is, w.x_names-is) (grown_past v.2 t (sym c.has.ensures ∙ w.if-has.false))
      ],
    )
