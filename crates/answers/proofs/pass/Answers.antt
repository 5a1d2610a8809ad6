-- Tables of zeros become the fresh state, and the walk lists the answers.
use Prim.Native.Nat.{◌*◌}
use native.Mathlib.Omega.{arith}
use Rattle.rules.specs.Sizes.{max_sheets}
use Rattle.state.proofs.Fresh.{blank_zeros}
use Rattle.wire.proofs.Opening.{opening, header_within, few_sheets, owners_part, owners_many}
use Rattle.session.proofs.Needs.{begins, owners_few}
use Rattle.answers.proofs.pass.Goals as goal

pub slice_bounds-fresh-end-7 : goal.slice_bounds-fresh-end-7
slice_bounds-fresh-end-7 c = omega (arith, header_within (opening c.args.session.now c.args.header c.requires))

pub fresh-x-requires : goal.fresh-x-requires
fresh-x-requires c =
    let o = opening c.args.session.now c.args.header c.requires in
    let f = few_sheets o in
    (rw (owners_many o) (blank_zeros c.args.header.sheets 2849 168 202 (32 * max_sheets) (32 * max_sheets) (2 * max_sheets) (omega arith) (omega arith) (omega arith) (omega arith) (omega arith) (omega arith)), owners_few o (owners_part o))

pub walk-requires : goal.walk-requires
walk-requires c =
    let o = opening c.args.session.now c.args.header c.requires in
    begins c.args.session.now c.args.header c.requires (owners_part o) c.fresh-x.ensures.starts.0 c.fresh-x.ensures.starts.1
