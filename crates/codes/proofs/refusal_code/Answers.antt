-- By the refusal's number.
use Rattle.codes.proofs.refusal_code.Goals as goal

pub returns-clause-value : goal.returns-clause-value
returns-clause-value c = rw c.from.ensures at c.number_code.ensures.value

pub returns-clause-decoded : goal.returns-clause-decoded
returns-clause-decoded c = rw c.from.ensures at c.number_code.ensures.decoded
