-- From 1 to the last number.
use mathlib.Core.Path.{◌∙◌, sym}
use native.Mathlib.Omega.{arith}
use borrow.Author.Tests.{le-leb}
use Rattle.forms.proofs.Slots.{number_range, out_of_range, known_by}
use Rattle.forms.proofs.Kind.new.Goals as goal
use Rattle.forms.proofs.Kind.new.Goals.{then-c-lt1-via-then-c-lt1, then-c-lt1-via-else-c-lt1+then-c-gt-LAST}

pub returns-then-c-lt1 : goal.returns-then-c-lt1
returns-then-c-lt1 c =
    out_of_range c.args.c (λ k.
    let r = number_range c.args.c k in
    elim c.then-c-lt1.branch [ then-c-lt1-via-then-c-lt1 w ↦ omega arith | then-c-lt1-via-else-c-lt1+then-c-gt-LAST w ↦ omega arith ])

pub invariant_of-result : goal.invariant_of-result
invariant_of-result c = record { known = sym (known_by c.args.c c.if-c-lt1.false) ∙ le-leb _ _ c.if-c-gt-LAST.false }
