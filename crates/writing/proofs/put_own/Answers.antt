-- Two bytes, or three.
use mathlib.Core.Path.{sym, ◌∙◌}
use native.Mathlib.Omega.{arith}
use Rattle.forms.proofs.Shapes.{size_small}
use Rattle.text.proofs.Writing.{writes_then}
use Rattle.writing.proofs.Putting.{own_one, own_two}
use Rattle.writing.proofs.put_own.Goals as goal

pub put-requires-2 : goal.put-requires-2
put-requires-2 c = omega (arith, size_small c.args.kind.number c.args.kind.known)

pub put-requires-then-size-ne-SHORTEST : goal.put-requires-then-size-ne-SHORTEST
put-requires-then-size-ne-SHORTEST c = omega (arith, size_small c.args.kind.number c.args.kind.known)

pub returns-then-size-ne-SHORTEST : goal.returns-then-size-ne-SHORTEST
returns-then-size-ne-SHORTEST c z =
    let a = c.args in
    own_two a.kind.number a.x a.y z a.kind.known (λ e. c.if-size-ne-SHORTEST.true (c.size.ensures ∙ e)) c.requires.0 (writes_then (writes_then c.put.ensures c.put-2.ensures) c.put-then-size-ne-SHORTEST.ensures)

pub returns-else-size-ne-SHORTEST : goal.returns-else-size-ne-SHORTEST
returns-else-size-ne-SHORTEST c z =
    let a = c.args in
    own_one a.kind.number a.x a.y z a.kind.known (sym c.size.ensures ∙ c.if-size-ne-SHORTEST.false) (writes_then c.put.ensures c.put-2.ensures)
