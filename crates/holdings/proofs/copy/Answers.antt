-- Nothing, or the three fields of the copy.
use mathlib.Core.Path.{refl, sym, ◌∙◌}
use Rattle.text.proofs.Writing.{writes_nothing}
use Rattle.holdings.proofs.Laws.{no_copy, has_fields}
use Rattle.holdings.proofs.copy.Goals as goal

pub returns-then-not-member : goal.returns-then-not-member
returns-then-not-member c =
    writes_nothing _ (no_copy c.requires.0 c.args.t c.args.k c.requires.1 c.requires.2 (sym c.member.ensures ∙ c.if-not-member.true))

pub returns : goal.returns
returns c =
    let e = has_fields c.requires.0 c.args.t c.args.k c.requires.1 c.requires.2 (sym c.member.ensures ∙ c.if-not-member.false) c.cell-v.ensures refl c.cell-wct.ensures in
    rw e at c.fields.ensures
