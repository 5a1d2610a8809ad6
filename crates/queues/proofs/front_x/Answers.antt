use mathlib.Core.Path.{◌∙◌}
use Rattle.queues.proofs.Going.{queue_asked, queue_read}
use Rattle.queues.proofs.front_x.Goals as goal

pub front_is-requires : goal.front_is-requires
front_is-requires c = queue_asked c.args.m c.args.q.now c.args.k c.requires.2 c.requires.0 c.requires.3 c.requires.4

pub returns : goal.returns
returns c = c.front_is.ensures ∙ queue_read c.args.m c.args.q.now c.args.k c.requires.2
