-- The P, O and T lines one behind the other.
use mathlib.Core.Path.{◌≡◌}
use native.Mathlib.Omega.{arith}
use lib.ListN.{length, take}
use Rattle.std.proofs.lemmas.List.{length-take}
use Rattle.tally.specs.Figures.{figures}
use Rattle.text.proofs.Writing.{writes_then, writes_next}
use Rattle.rows.proofs.Shown.{written}
use Rattle.rows.proofs.state_lines.Goals as goal

pub returns : goal.returns
returns c =
    let x = c.args.x.now in
    let n = c.line_of-n.result in
    let l = c.line_of-n.ensures in
    let k : length (take n c.line_of-n.new.line) ≡ n = omega (arith, length-take n c.line_of-n.new.line, l.few, l.long) in
    let few = length-take n c.rows_of-rows.result in
    let places = rw (rw k at c.rows_of-rows.ensures) at c.place_lines.ensures in
    writes_next (written x.m x.bytes.now x.queues.now x.sheets.now (figures c.args.t) c.requires.0 l) (writes_then places c.sheet_lines.ensures) c.tally_line.ensures (omega arith)
