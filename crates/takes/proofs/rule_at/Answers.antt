use native.Mathlib.Omega.{arith}
use Rattle.state.specs.declared.Rule.TheVariants.{XGranted, XWaiting, CounterBehind}
use Rattle.takes.proofs.Ruling.{ahead_queued, x_ahead, rule_by}
use Rattle.takes.proofs.rule_at.Goals as goal

pub front_is-requires : goal.front_is-requires
front_is-requires c = let p = c.requires in let q = c.args.x.now.queues.now in let m = c.args.x.now.m in
    (omega (arith, p.0), p.4 _ (ahead_queued q m c.args.t c.args.k c.requires.2 c.requires.3 c.both-all.result c.both-xs.result c.both-all.ensures c.both-xs.ensures), x_ahead q m c.args.t c.args.k c.requires.2 c.requires.3 c.both-all.result c.both-xs.result c.both-all.ensures c.both-xs.ensures p.5)

pub returns-then-front_is : goal.returns-then-front_is
returns-then-front_is c = rule_by c.args.x.now.queues.now c.args.x.now.m c.args.t c.args.k c.requires.2 c.requires.3 c.both-all.result c.both-xs.result c.both-all.ensures c.both-xs.ensures XGranted (rw (← c.front_is.ensures, c.if-front_is.true))

pub returns-then-some : goal.returns-then-some
returns-then-some c = rule_by c.args.x.now.queues.now c.args.x.now.m c.args.t c.args.k c.requires.2 c.requires.3 c.both-all.result c.both-xs.result c.both-all.ensures c.both-xs.ensures XWaiting (rw (← c.front_is.ensures, c.if-front_is.false, ← c.some.ensures, c.if-some.true))

pub returns : goal.returns
returns c = rule_by c.args.x.now.queues.now c.args.x.now.m c.args.t c.args.k c.requires.2 c.requires.3 c.both-all.result c.both-xs.result c.both-all.ensures c.both-xs.ensures CounterBehind (rw (← c.front_is.ensures, c.if-front_is.false, ← c.some.ensures, c.if-some.false))
