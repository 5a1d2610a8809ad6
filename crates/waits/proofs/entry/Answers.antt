-- The line's start and the claim's letter, then G or W with the names.
use mathlib.Core.Path.{sym, ◌∙◌}
use Rattle.text.proofs.Writing.{writes_then}
use Rattle.clipped.specs.Puts.{Puts}
use Rattle.waits.specs.Queues.{names_text, entry_text}
use Rattle.waits.proofs.Laws.{no_names, with_names}
use Rattle.waits.proofs.entry.Goals as goal
use Rattle.waits.proofs.entry.Goals.{then-is_empty, else-is_empty}

pub returns : goal.returns
unfolding entry_text
returns c =
    let names = c.args.names.now in
    let g : Puts c.letter.new.self c.if-is_empty.room (names_text names) 98 =
    elim c.if-is_empty.branch [
      | then-is_empty w ↦ rw w.room-is (no_names names (sym c.is_empty.ensures ∙ w.if-is_empty.true) w.letter-then-is_empty.ensures)
      | else-is_empty w ↦ rw w.room-is (with_names names (sym c.is_empty.ensures ∙ w.if-is_empty.false) c.requires.1 w.letter-else-is_empty.ensures w.append.ensures)
    ] in
    writes_then (writes_then (writes_then c.line_start.ensures c.letter.ensures) g) c.put.ensures
