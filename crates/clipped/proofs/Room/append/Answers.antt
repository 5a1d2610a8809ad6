-- Byte by byte: before byte i the first i stand there.
use native.Mathlib.Omega.{arith}
use borrow.Author.Rules.{rules}
use lib.ListN.{length-set}
use Rattle.clipped.proofs.Laws.{one_stored, cut_off}
use Rattle.clipped.proofs.Room.append.Goals as goal

pub loop-i-preserved : goal.loop-i-preserved
loop-i-preserved c =
    let v = c.loop-i.invariant in
    let z = c.min-i-end.ensures in
    record { place = v.place; same = v.same; long = rw length-set v.long; stored = rw v.place (one_stored c.args.self.now.at c.loop-i.i c.args.text.now (omega arith) v.stored) }

pub returns : goal.returns
returns c =
    let v = c.loop-i.invariant in
    let z = c.min-i-end.ensures in
    let y = c.saturating_sub-fits.ensures in
    let w = cut_off c.args.self.now.at c.loop-i.i c.args.text.now (omega arith) (λ h. omega arith) v.stored in
    let p = v.place in
    record { same = v.same; long = v.long; wrote = record { ends = search rules; bytes = w.bytes; short = w.short } }
