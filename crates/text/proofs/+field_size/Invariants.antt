use Rattle.text.proofs.+field_size.Given as goal

abbrev pub decreases-field_size : goal.decreases-field_size
decreases-field_size l = l.n
