-- Each arm hands on what its command ensures.
use Rattle.engine.proofs.Given.{few_bytes, few_runs, own_copies}
use Rattle.engine.proofs.step.Goals as goal

pub begin-requires : goal.begin-requires
begin-requires c = (few_bytes c.requires.0, few_runs c.requires.0)

pub read-requires : goal.read-requires
read-requires c = (c.requires.0, c.requires.2.value, c.requires.2.seen, c.requires.2.sheets, c.requires.1)

pub write-requires : goal.write-requires
write-requires c = (own_copies c.requires.0, c.requires.2.value)

pub take-requires : goal.take-requires
take-requires c = (c.requires.0, c.requires.2.seen, c.requires.2.sheets)

pub apply-requires : goal.apply-requires
apply-requires c = (c.requires.0, c.requires.2.value, c.requires.2.sheets, c.requires.1)

pub give_up-requires : goal.give_up-requires
give_up-requires c = few_bytes c.requires.0

pub returns-in-Begin : goal.returns-in-Begin
returns-in-Begin c = let e = c.begin.ensures in record { moves = rw c.in-Begin.is e.moves; kept = e.kept; same = e.only.same }

pub returns-in-Read : goal.returns-in-Read
returns-in-Read c = let e = c.read.ensures in record { moves = rw c.in-Read.is e.moves; kept = e.kept; same = e.only.same }

pub returns-in-Write : goal.returns-in-Write
returns-in-Write c = let e = c.write.ensures in record { moves = rw c.in-Write.is e.moves; kept = e.kept; same = e.only.same }

pub returns-in-Submit : goal.returns-in-Submit
returns-in-Submit c = let e = c.submit.ensures in record { moves = rw c.in-Submit.is e.moves; kept = e.kept; same = e.only.same }

pub returns-in-Take : goal.returns-in-Take
returns-in-Take c = let e = c.take.ensures in record { moves = rw c.in-Take.is e.moves; kept = e.kept; same = e.only.same }

pub returns-in-Decide : goal.returns-in-Decide
returns-in-Decide c = let e = c.decide.ensures in record { moves = rw c.in-Decide.is e.moves; kept = e.kept; same = e.only.same }

pub returns-in-Apply : goal.returns-in-Apply
returns-in-Apply c = let e = c.apply.ensures in record { moves = rw c.in-Apply.is e.moves; kept = e.kept; same = e.only.same }

pub returns-in-GiveUp : goal.returns-in-GiveUp
returns-in-GiveUp c = let e = c.give_up.ensures in record { moves = rw c.in-GiveUp.is e.moves; kept = e.kept; same = e.only.same }
