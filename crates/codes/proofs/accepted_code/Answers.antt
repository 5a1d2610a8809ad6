-- Answer by answer, its number.
use native.Mathlib.Omega.{arith}
use Rattle.session.specs.declared.Reply.TheVariants.{Accepted, Content, Commits, SecondRun}
use Rattle.codes.proofs.Laws.{told}
use Rattle.codes.proofs.accepted_code.Goals as goal

pub returns-in-Accepted-clause-decoded : goal.returns-in-Accepted-clause-decoded
returns-in-Accepted-clause-decoded c = told _ Accepted c.in-Accepted.is tt c.code.ensures

pub returns-in-Content-clause-decoded : goal.returns-in-Content-clause-decoded
returns-in-Content-clause-decoded c = told _ (Content c.in-Content.v) c.in-Content.is (omega arith) c.code-in-Content.ensures

pub returns-in-Commits-clause-decoded : goal.returns-in-Commits-clause-decoded
returns-in-Commits-clause-decoded c = told _ Commits c.in-Commits.is tt c.code-in-Commits.ensures

pub returns-in-SecondRun-clause-decoded : goal.returns-in-SecondRun-clause-decoded
returns-in-SecondRun-clause-decoded c = told _ SecondRun c.in-SecondRun.is tt c.code-in-SecondRun.ensures
