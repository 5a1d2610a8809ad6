-- Two numbers stored.
use Rattle.storing.proofs.Carry.{received_at, can_rise}
use Rattle.storing.proofs.store_sheet.Goals as goal

pub overflow_add-w-2 : goal.overflow_add-w-2
overflow_add-w-2 c = record { fits = can_rise c.args.m c.args.k c.args.w.now _ c.requires.4 c.requires.5 c.from.ensures }

pub returns : goal.returns
returns c = received_at c.args.m c.args.t c.args.k c.args.value.now c.args.w.now c.requires.4 c.requires.1 c.cell-v.ensures c.from.ensures
