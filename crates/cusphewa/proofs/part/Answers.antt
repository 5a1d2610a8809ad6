-- A session that does not open shows nothing of its front, another by where its run stops.
use mathlib.Core.Path.{sym, ◌∙◌}
use Rattle.cusphewa.proofs.Laws.{part_bad, part_end, part_refused}
use Rattle.cusphewa.proofs.part.Goals as goal

pub returns-in_default : goal.returns-in_default
returns-in_default c = part_bad _ (sym c.read_header.ensures ∙ c.in_default.is)

pub returns-in-Ok : goal.returns-in-Ok
returns-in-Ok c = part_end _ _ (sym c.read_header.ensures ∙ c.in-Some.is) _ c.unreported-e.ensures c.in-Ok.is

pub returns-in-Err : goal.returns-in-Err
returns-in-Err c = part_refused _ _ (sym c.read_header.ensures ∙ c.in-Some.is) _ c.unreported-e.ensures c.in-Err.r c.in-Err.is
