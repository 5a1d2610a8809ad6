-- By the save that stands there, or behind the order's end.
use mathlib.Core.Path.{refl}
use borrow.Author.Tests.{le-ltb}
use Rattle.showing.proofs.Laws.{no_place, some_place}
use Rattle.showing.proofs.has_place.Goals as goal

pub returns-then-p-x : goal.returns-then-p-x
returns-then-p-x c = some_place c.requires.0 c.args.t c.requires.1 refl c.if-p-x.true

pub returns-else-p-x : goal.returns-else-p-x
returns-else-p-x c = rw (le-ltb _ _ c.if-p-x.false) (no_place c.requires.0 c.args.t c.requires.1 refl c.if-p-x.false)
