-- Place by place: the saves whose last place was passed.
use Rattle.rows.specs.Rows.{Lined}
use Rattle.rows.proofs.line_of.Given as goal

abbrev pub invariant-loop-p : goal.invariant-loop-p
invariant-loop-p l = Lined l.x.bytes.now l.x.queues.now l.p l.line l.n
