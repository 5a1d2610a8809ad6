-- Any text fits the most room; else the length first, then the text.
use Rattle.states.proofs.Laws.{fits, fits_all}
use Rattle.states.proofs.fill.Goals as goal
use Rattle.states.proofs.fill.Goals.{then-room-lt-MAX_STATE+else-room-n, else-room-lt-MAX_STATE}

pub returns-clause-room_after : goal.returns-clause-room_after
returns-clause-room_after c =
    elim c.if-room-lt-MAX_STATE.branch [
      | then-room-lt-MAX_STATE+else-room-n w ↦ fits w.text-n.ensures w.if-room-n.false c.text.ensures
      | else-room-lt-MAX_STATE w ↦ fits_all c.args.x.now.m c.requires.few w.if-room-lt-MAX_STATE.false c.text.ensures
    ]
