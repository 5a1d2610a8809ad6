-- A shift by whole bytes.
use native.Mathlib.Omega.{arith}
use borrow.Author.Rules.{rules}
use Rattle.forms.specs.Columns.{byte_of}
use Rattle.forms.proofs.Slots.{number_range}
use Rattle.forms.proofs.Kind.byte_of.Goals as goal

pub overflow_sub-result : goal.overflow_sub-result
overflow_sub-result c = omega (arith, number_range c.args.self.number c.args.self.known)

pub overflow_shr-result : goal.overflow_shr-result
overflow_shr-result c = omega (arith, number_range c.args.self.number c.args.self.known)

pub returns : goal.returns
unfolding byte_of
returns c = search rules
