-- The column of sizes.
use mathlib.Core.Path.{◌∙◌}
use Rattle.forms.proofs.Columns.{size_column}
use Rattle.forms.proofs.Kind.size.Goals as goal

pub returns : goal.returns
returns c = c.byte_of.ensures ∙ size_column c.args.self.number c.args.self.known
