-- Two words stored.
use Rattle.leaving.proofs.Going.{gone_at}
use Rattle.leaving.proofs.leave_sheet.Goals as goal

pub returns : goal.returns
returns c = gone_at c.args.m c.args.t c.args.k c.args.q.now c.requires.0 c.requires.3 c.without.result c.without-2.result c.without.ensures c.without-2.ensures
