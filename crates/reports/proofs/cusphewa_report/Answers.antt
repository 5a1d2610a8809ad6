-- Refusal 12, refusal 1, or the report of the run; demand 3 and what is said of neighbours, changed contents and marks are the rules' theorems.
use mathlib.Core.Path.{◌≡◌, sym, ◌∙◌}
use native.Mathlib.Omega.{arith}
use Rattle.rules.specs.Writing.{Bytes}
use Rattle.rules.proofs.Demand3.{session_demand3}
use Rattle.rules.proofs.Neighbours.{session_neighbours}
use Rattle.rules.proofs.Changes.{session_changes}
use Rattle.rules.proofs.Eight.{never_eight}
use Rattle.rules.proofs.Counter.{always_adds_marks}
use Rattle.text.proofs.Writing.{wrote_end, wrote_back}
use borrow.Author.Rules.{rules}
use Rattle.reports.proofs.Laws.{short_buffer, filled, not_empty, report_bad}
use Rattle.reports.proofs.cusphewa_report.Goals as goal

pub returns-then-report-lt-MIN_BUFFER : goal.returns-then-report-lt-MIN_BUFFER
returns-then-report-lt-MIN_BUFFER c =
    let b = c.args.session.now in
    let h : Bytes b = λ i. omega (arith, c.type_inv.session i) in
    record {
      report_after = short_buffer _ _ c.if-report-lt-MIN_BUFFER.true;
      demand3 = session_demand3 b;
      neighbours = session_neighbours b h;
      changes = session_changes b;
      eight = never_eight b;
      marks = always_adds_marks;
      fits = omega arith;
      only_12 = λ _. c.if-report-lt-MIN_BUFFER.true;
    }

pub run-requires : goal.run-requires
run-requires c = sym c.read_header.ensures ∙ c.in-Some.is

pub returns-in-None : goal.returns-in-None
returns-in-None c =
    let b = c.args.session.now in
    let h : Bytes b = λ i. omega (arith, c.type_inv.session i) in
    let n : c.from.result ≡ 1 = search rules in
    let w = wrote_back (rw n at c.refusal_line.ensures.wrote) (search rules) in
    let e = filled _ _ c.if-report-lt-MIN_BUFFER.false (omega arith) (report_bad _ (sym c.read_header.ensures ∙ c.in-None.is)) w in
    record {
      report_after = e;
      demand3 = session_demand3 b;
      neighbours = session_neighbours b h;
      changes = session_changes b;
      eight = never_eight b;
      marks = always_adds_marks;
      fits = omega (arith, c.if-report-lt-MIN_BUFFER.false, wrote_end w);
      only_12 = not_empty b _ e;
    }

pub returns-in-Some : goal.returns-in-Some
returns-in-Some c =
    let b = c.args.session.now in
    let h : Bytes b = λ i. omega (arith, c.type_inv.session i) in
    record {
      report_after = c.run.ensures.report;
      demand3 = session_demand3 b;
      neighbours = session_neighbours b h;
      changes = session_changes b;
      eight = never_eight b;
      marks = always_adds_marks;
      fits = c.run.ensures.fits;
      only_12 = not_empty b _ c.run.ensures.report;
    }
