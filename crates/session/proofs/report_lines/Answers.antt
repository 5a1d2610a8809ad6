-- The state's lines, then the stop's, where the buffer has room.
use Rattle.session.proofs.Lines.{written}
use borrow.Author.Rules.{rules}
use Rattle.session.proofs.report_lines.Goals as goal

pub returns-clause-report_after : goal.returns-clause-report_after
returns-clause-report_after c =
    let x = c.args.x.now in
    let w = written x.m x.bytes.now x.queues.now x.sheets.now c.args.r c.if-report-lt-MIN_BUFFER.false c.requires.3 c.state_lines.ensures.wrote c.stop_line.ensures.wrote in
    search (rules, w)
