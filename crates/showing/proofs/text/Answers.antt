-- The parts one after the other.
use native.Mathlib.Omega.{arith}
use borrow.Author.Rules.{rules}
use Rattle.tally.specs.Figures.{figures}
use Rattle.text.proofs.Writing.{writes_then, wrote_back}
use Rattle.clipped.proofs.Laws.{wrote_within}
use Rattle.state.proofs.Known.{entry_claim}
use Rattle.rows.proofs.Lines.{ordered}
use Rattle.holdings.proofs.Laws.{readable}
use Rattle.showing.proofs.Laws.{marked, numbered, all_lines}
use Rattle.showing.proofs.text.Goals as goal

pub report_lines-requires : goal.report_lines-requires
report_lines-requires c = let p = c.requires in (ordered p.ready, p.stored, p.few, omega arith)

pub save_lines-requires : goal.save_lines-requires
save_lines-requires c =
    let p = c.requires in
    (marked p.ready, numbered p.ready, omega arith)

pub order_lines-requires : goal.order_lines-requires
order_lines-requires c =
    let p = c.requires in
    (numbered p.ready, omega arith)

pub node_lines-requires : goal.node_lines-requires
node_lines-requires c =
    let p = c.requires in
    (numbered p.ready, omega arith)

pub lines-requires : goal.lines-requires
lines-requires c =
    let p = c.requires in
    (readable p.ready p.values p.seens p.stored, omega arith)

pub lines-requires-2 : goal.lines-requires-2
lines-requires-2 c =
    let p = c.requires in
    (ordered p.ready, omega arith, p.ready.kept.sized.queues, omega arith)

pub returns : goal.returns
returns c =
    let x = c.args.x.now in
    let w = writes_then (writes_then (writes_then (writes_then (writes_then c.report_lines.ensures c.save_lines.ensures) c.order_lines.ensures) c.node_lines.ensures) c.lines.ensures) (c.lines-2.ensures x.sets.now (entry_claim c.requires.ready)) in
    wrote_back (wrote_within (all_lines x (figures c.args.tally)) (omega arith) w.wrote) (search rules)
