-- A refusal for each test, or the copy written.
use Rattle.state.specs.View.{tables}
use Rattle.state.specs.Lent.{writing}
use Rattle.state.proofs.Steps.{refused_by}
use Rattle.copies.proofs.Copying.{some_number, write_barred}
use Rattle.copies.proofs.Writing.{copy_asked, cell_fits, insert_fits, no_copy, wrote}
use Rattle.std.proofs.Common.{rules}
use Rattle.copies.proofs.write.Goals as goal

pub returns-in_err-barred : goal.returns-in_err-barred
returns-in_err-barred c =
    let x = c.args.x.now in record {
      moves = refused_by _ c.from_residual.ensures.1 (write_barred x.m (tables x) c.args.t c.args.k c.in_err-barred.ensures c.args.v (some_number _));
      kept = λ f. f;
      only = search rules;
      alone = record {
        moves = λ y. refused_by _ c.from_residual.ensures.1 (write_barred x.m (writing x.bytes.now x.sets.now x.value.now y) c.args.t c.args.k c.in_err-barred.ensures c.args.v (some_number _));
        kept = λ y f. f;
      };
    }

pub has_copy-requires : goal.has_copy-requires
has_copy-requires c = let x = c.args.x.now in copy_asked x.m x.bytes.now x.sets.now x.value.now c.args.t c.args.k c.requires c.in_ok-barred.ensures

pub returns-then-not-has_copy : goal.returns-then-not-has_copy
returns-then-not-has_copy c =
    let x = c.args.x.now in
    let out = no_copy x.m x.bytes.now x.sets.now x.value.now c.args.t c.args.k c.requires c.in_ok-barred.ensures c.args.v c.has_copy.ensures c.if-not-has_copy.true in record {
      moves = out (tables x);
      kept = λ f. f;
      only = search rules;
      alone = record { moves = out; kept = λ y f. f };
    }

pub set_cell-requires : goal.set_cell-requires
set_cell-requires c = let x = c.args.x.now in cell_fits x.m x.bytes.now x.sets.now x.value.now c.args.t c.args.k c.requires c.in_ok-barred.ensures

pub insert-requires : goal.insert-requires
insert-requires c = let x = c.args.x.now in insert_fits x.m x.bytes.now x.sets.now x.value.now c.args.t c.args.k c.requires c.in_ok-barred.ensures

pub returns : goal.returns
returns c = let x = c.args.x.now in
    let all = wrote x.m x.bytes.now x.sets.now x.value.now c.args.t c.args.k c.requires c.in_ok-barred.ensures c.args.v c.has_copy.ensures c.if-not-has_copy.false c.set_cell.ensures c.insert.ensures in record {
      moves = all.0 (tables x);
      kept = all.1 (tables x);
      only = search rules;
      alone = record { moves = all.0; kept = all.1 };
    }
