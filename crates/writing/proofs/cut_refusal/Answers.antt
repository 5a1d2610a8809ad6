-- Every command has an operand; a step cut short has too few.
use Rattle.writing.proofs.Steps.{cut_known, cut_unknown}
use Rattle.writing.proofs.cut_refusal.Goals as goal

pub returns-in-Some : goal.returns-in-Some
returns-in-Some c n m vs l = let k = c.in-Some.field-0 in rw (← c.in-Some.ensures) (cut_known n m k.number vs k.known l)

pub returns-in-None : goal.returns-in-None
returns-in-None c n m vs l = cut_unknown n m c.args.c vs c.in-None.ensures
