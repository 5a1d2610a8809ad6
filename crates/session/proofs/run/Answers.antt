-- Tables of zeros become the fresh state, the walk carries it through, and the report is written from it.
use Prim.Native.Nat.{◌*◌}
use native.Mathlib.Omega.{arith}
use Rattle.rules.specs.Sizes.{max_sheets}
use Rattle.state.proofs.Fresh.{blank_zeros}
use Rattle.wire.proofs.Opening.{opening, header_within, few_sheets, owners_part, owners_many}
use Rattle.session.proofs.Needs.{begins, owners_few}
use Rattle.session.proofs.Lines.{ordered, reported, stop_near}
use Rattle.session.proofs.run.Goals as goal

pub slice_bounds-fresh-end-7 : goal.slice_bounds-fresh-end-7
slice_bounds-fresh-end-7 c = omega (arith, header_within (opening c.args.session.now c.args.header c.requires))

pub fresh-x-requires : goal.fresh-x-requires
fresh-x-requires c =
    let o = opening c.args.session.now c.args.header c.requires in
    let f = few_sheets o in
    (rw (owners_many o) (blank_zeros c.args.header.sheets 2849 168 202 (32 * max_sheets) (32 * max_sheets) (2 * max_sheets) (omega arith) (omega arith) (omega arith) (omega arith) (omega arith) (omega arith)), owners_few o (owners_part o))

pub walk-r-requires : goal.walk-r-requires
walk-r-requires c =
    let o = opening c.args.session.now c.args.header c.requires in
    begins c.args.session.now c.args.header c.requires (owners_part o) c.fresh-x.ensures.starts.0 c.fresh-x.ensures.starts.1

pub report_lines-size-requires : goal.report_lines-size-requires
report_lines-size-requires c =
    let o = opening c.args.session.now c.args.header c.requires in
    let v = c.walk-r.ensures.carried in
    let f = few_sheets o in
    let m = owners_many o in
    (ordered v.ready, v.ready.known.sheets16, v.fit.sheets, omega (arith, c.walk-r.ensures.same.0, c.fresh-x.ensures.starts.0), stop_near o.opened_well v)

pub returns-clause-report : goal.returns-clause-report
returns-clause-report c =
    let o = opening c.args.session.now c.args.header c.requires in
    reported o.opened_well c.walk-r.ensures.carried c.args.report.now c.report_lines-size.ensures.report_after
