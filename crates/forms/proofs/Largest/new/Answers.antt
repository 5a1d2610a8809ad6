-- Each byte of a column is the largest operand there.
use Rattle.forms.proofs.Columns.{first_column, second_column}
use Rattle.forms.proofs.Largest.new.Goals as goal

pub returns : goal.returns
returns c = record { first = first_column c.args.nodes c.args.sheets c.requires.0.0 c.requires.0.1; second = second_column c.args.nodes c.args.sheets c.requires.1.0 c.requires.1.1 }
