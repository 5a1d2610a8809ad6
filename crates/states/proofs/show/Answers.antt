-- Tables of zeros become the fresh state, the walk carries it through, and the text is written from it.
use Prim.Native.Nat.{◌*◌, ◌≤◌}
use mathlib.Core.Path.{◌∙◌}
use native.Mathlib.Omega.{arith}
use Rattle.rules.specs.Sizes.{max_sheets}
use Rattle.state.proofs.Fresh.{blank_zeros}
use Rattle.wire.proofs.Opening.{opening, header_within, few_sheets, owners_part, owners_many}
use Rattle.session.proofs.Needs.{begins, owners_few}
use Rattle.states.proofs.Laws.{shows, called, short_so}
use Rattle.states.proofs.show.Goals as goal

pub slice_bounds-fresh-end-7 : goal.slice_bounds-fresh-end-7
slice_bounds-fresh-end-7 c = omega (arith, header_within (opening c.args.session.now c.args.header c.requires))

pub fresh-x-requires : goal.fresh-x-requires
fresh-x-requires c =
    let o = opening c.args.session.now c.args.header c.requires in
    let f = few_sheets o in
    (rw (owners_many o) (blank_zeros c.args.header.sheets 2849 168 202 (32 * max_sheets) (32 * max_sheets) (2 * max_sheets) (omega arith) (omega arith) (omega arith) (omega arith) (omega arith) (omega arith)), owners_few o (owners_part o))

pub walk-r-requires : goal.walk-r-requires
walk-r-requires c =
    let o = opening c.args.session.now c.args.header c.requires in
    begins c.args.session.now c.args.header c.requires (owners_part o) c.fresh-x.ensures.starts.0 c.fresh-x.ensures.starts.1

pub fill-requires : goal.fill-requires
fill-requires c =
    let o = opening c.args.session.now c.args.header c.requires in
    let f = few_sheets o in
    let n = owners_many o in
    let m : c.walk-r.new.x.m ≤ max_sheets = omega (arith, c.walk-r.ensures.same.0, c.fresh-x.ensures.starts.0) in
    shows o.opened_well c.walk-r.new.x c.walk-r.ensures.carried m

pub returns-clause-room_after : goal.returns-clause-room_after
returns-clause-room_after c =
    let o = opening c.args.session.now c.args.header c.requires in
    c.fill.ensures.room_after ∙ called o.opened_well c.walk-r.new.x c.walk-r.ensures.carried c.args.room.now

pub returns-clause-short : goal.returns-clause-short
returns-clause-short c =
    let o = opening c.args.session.now c.args.header c.requires in
    short_so o.opened_well c.walk-r.new.x c.walk-r.ensures.carried c.fill.ensures.short
