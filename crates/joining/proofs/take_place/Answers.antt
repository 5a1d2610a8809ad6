-- Each number and set in turn.
use mathlib.Core.Path.{refl}
use lib.ListN.{get_or}
use Rattle.state.specs.View.{PLACED}
use Rattle.joining.proofs.Seats.{seated}
use Rattle.joining.proofs.take_place.Goals as goal

pub returns : goal.returns
returns c = seated c.args.t c.requires.3 c.args.b.now c.args.q.now c.requires.1 (get_or c.args.q.now PLACED 0) _ c.with.result refl refl c.with.ensures
