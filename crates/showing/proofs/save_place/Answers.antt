-- By the test.
use mathlib.Core.Path.{refl}
use native.Mathlib.Omega.{arith}
use Rattle.state.specs.View.{PLACE}
use Rattle.state.proofs.Parts.{part_in}
use Rattle.clipped.proofs.Laws.{writes_within}
use Rattle.showing.proofs.Laws.{place_small}
use borrow.Author.Rules.{rules}
use Rattle.showing.proofs.save_place.Goals as goal

pub overflow_cast-x : goal.overflow_cast-x
overflow_cast-x c =
    let z = place_small c.requires.0.ordered c.args.t c.requires.1 refl c.has_place.ensures c.if-has_place.true in
    search (rules, c.requires.0.fits)

pub returns-then-has_place : goal.returns-then-has_place
returns-then-has_place c =
    writes_within (rw (← c.has_place.ensures, c.if-has_place.true, part_in PLACE 32 c.args.x.now.queues.now c.args.t c.requires.1)) (omega arith) c.field.ensures
