-- WRITE has a content, the others nothing.
use Rattle.forms.proofs.Columns.{third_content, third_absent}
use Rattle.forms.proofs.Kind.largest_third.Goals as goal

pub returns-then-self-eq-WRITE : goal.returns-then-self-eq-WRITE
returns-then-self-eq-WRITE c n m = third_content n m c.args.self.number c.args.self.known c.if-self-eq-WRITE.true

pub returns-else-self-eq-WRITE : goal.returns-else-self-eq-WRITE
returns-else-self-eq-WRITE c n m = third_absent n m c.args.self.number c.args.self.known c.if-self-eq-WRITE.false
