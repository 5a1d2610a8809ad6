-- Written aside, where they fit, and copied.
use native.Mathlib.Omega.{arith}
use Rattle.clipped.proofs.Laws.{copied}
use Rattle.showing.proofs.report_lines.Goals as goal

pub returns : goal.returns
returns c =
    let p = c.append.ensures in
    record { same = p.same; long = p.long; wrote = copied c.state_lines.ensures.wrote (omega arith) p.wrote c.written.ensures }
