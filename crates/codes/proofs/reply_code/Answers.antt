-- A refusal's place is told whole.
use Rattle.codes.proofs.Laws.{none_told, told_refused}
use Rattle.codes.proofs.reply_code.Goals as goal

pub returns-in-Err-clause-decoded : goal.returns-in-Err-clause-decoded
returns-in-Err-clause-decoded c = rw c.in-Err.is ((told_refused c.in-Err.refused (rw c.in-Err.is at c.requires) c.refusal_code.ensures.value).1)

pub returns-in-None-clause-decoded : goal.returns-in-None-clause-decoded
returns-in-None-clause-decoded c = none_told c.args.r c.in-Ok.last c.in-Ok.is c.in-None.is c.code.ensures
