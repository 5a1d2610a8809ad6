-- A refusal for each test, the save's own copy, or a new one.
use native.Mathlib.Omega.{arith}
use Rattle.state.specs.View.{tables}
use Rattle.state.proofs.Steps.{refused_by}
use Rattle.copies.proofs.Copying.{some_number, read_barred}
use Rattle.copies.proofs.Reading.{lends, copy_asked, row_fits, value_fits, sheet_fits, seen_row, sheet_small, seen_fits, blocked_asked, counter_fits, own_read, read_held, made}
use Rattle.std.proofs.Common.{rules}
use Rattle.copies.proofs.read.Goals as goal

pub returns-in_err-barred-clause-moves : goal.returns-in_err-barred-clause-moves
returns-in_err-barred-clause-moves c = let x = c.args.x.now in
    refused_by _ c.from_residual.ensures.1 (read_barred x.m (tables x) c.args.t c.args.k c.in_err-barred.ensures (some_number _))

pub has_copy-requires : goal.has_copy-requires
has_copy-requires c = let x = c.args.x.now in let l = lends x.value.now x.seen.now x.sheets.now c.requires in copy_asked l c.args.t c.args.k c.in_ok-barred.ensures

pub cell-requires : goal.cell-requires
cell-requires c = let x = c.args.x.now in let l = lends x.value.now x.seen.now x.sheets.now c.requires in value_fits l c.args.t c.args.k c.in_ok-barred.ensures

pub returns-then-has_copy-clause-moves : goal.returns-then-has_copy-clause-moves
returns-then-has_copy-clause-moves c = let x = c.args.x.now in let l = lends x.value.now x.seen.now x.sheets.now c.requires in
    own_read l c.args.t c.args.k c.in_ok-barred.ensures c.has_copy.ensures c.if-has_copy.true c.cell.ensures (tables x)

pub blocked-requires : goal.blocked-requires
blocked-requires c = let x = c.args.x.now in let l = lends x.value.now x.seen.now x.sheets.now c.requires in blocked_asked l c.args.t c.args.k c.in_ok-barred.ensures

pub returns-then-blocked-clause-moves : goal.returns-then-blocked-clause-moves
returns-then-blocked-clause-moves c = let x = c.args.x.now in let l = lends x.value.now x.seen.now x.sheets.now c.requires in
    read_held l c.args.t c.args.k c.in_ok-barred.ensures c.has_copy.ensures c.if-has_copy.false c.blocked.ensures c.if-blocked.true (tables x)

pub cell-v-requires : goal.cell-v-requires
cell-v-requires c = let x = c.args.x.now in let l = lends x.value.now x.seen.now x.sheets.now c.requires in sheet_fits l c.args.t c.args.k c.in_ok-barred.ensures 0 (omega arith)

pub cell-n-requires : goal.cell-n-requires
cell-n-requires c = let x = c.args.x.now in let l = lends x.value.now x.seen.now x.sheets.now c.requires in sheet_fits l c.args.t c.args.k c.in_ok-barred.ensures 1 (omega arith)

pub set_cell-requires : goal.set_cell-requires
set_cell-requires c = let x = c.args.x.now in let l = lends x.value.now x.seen.now x.sheets.now c.requires in value_fits l c.args.t c.args.k c.in_ok-barred.ensures

pub overflow_cast-x : goal.overflow_cast-x
overflow_cast-x c = let x = c.args.x.now in let l = lends x.value.now x.seen.now x.sheets.now c.requires in record { fits = counter_fits l c.args.t c.args.k c.in_ok-barred.ensures c.cell-n.ensures }

pub overflow_add-x : goal.overflow_add-x
overflow_add-x c = let x = c.args.x.now in let l = lends x.value.now x.seen.now x.sheets.now c.requires in omega (arith, seen_row l c.args.t c.args.k c.in_ok-barred.ensures, sheet_small l c.args.t c.args.k c.in_ok-barred.ensures)

pub offset_bounds-x-i : goal.offset_bounds-x-i
offset_bounds-x-i c = let x = c.args.x.now in let l = lends x.value.now x.seen.now x.sheets.now c.requires in omega (arith, seen_row l c.args.t c.args.k c.in_ok-barred.ensures, sheet_small l c.args.t c.args.k c.in_ok-barred.ensures)

pub bounds-x-i : goal.bounds-x-i
bounds-x-i c = let x = c.args.x.now in let l = lends x.value.now x.seen.now x.sheets.now c.requires in seen_fits l c.args.t c.args.k c.in_ok-barred.ensures

pub insert-requires : goal.insert-requires
insert-requires c = let x = c.args.x.now in let l = lends x.value.now x.seen.now x.sheets.now c.requires in row_fits l c.args.t c.args.k c.in_ok-barred.ensures

pub returns : goal.returns
returns c = let x = c.args.x.now in let l = lends x.value.now x.seen.now x.sheets.now c.requires in
    let all = made l c.args.t c.args.k c.in_ok-barred.ensures c.has_copy.ensures c.if-has_copy.false c.blocked.ensures c.if-blocked.false c.cell-v.ensures c.cell-n.ensures c.set_cell.ensures c.insert.ensures in record {
      moves = all.0 (tables x);
      kept = all.1 (tables x);
      only = search rules;
    }
