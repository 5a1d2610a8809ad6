-- Before each owner those before it stand there.
use lib.ListN.{take}
use Rattle.text.specs.Writes.{Writes}
use Rattle.writing.proofs.put_owners.Given as goal

abbrev pub invariant-loop-owner : goal.invariant-loop-owner
invariant-loop-owner l = Writes l.initial.out l.out (take l.owner-index l.owners) l.owner-index
