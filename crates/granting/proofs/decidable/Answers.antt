-- The first block that is not granted decides.
use native.Mathlib.Omega.{arith}
use Rattle.std.proofs.Common.{rules, refl, ◌∙◌}
use Rattle.std.proofs.lemmas.Iterator.{YieldsList-from_range}
use Rattle.std.proofs.lemmas.Iterator.Search.{all_from_yields_List}
use borrow.Author.Tests.{tests}
use Rattle.granting.specs.Granting.{block_granted}
use Rattle.granting.proofs.Blocks.{range_all}
use Rattle.granting.proofs.decidable.Goals as goal

pub returns : goal.returns
returns c = let f = block_granted c.args.s.now c.args.q.now c.args.t in
    rw (← c.blocks-2.ensures) (all_from_yields_List f _ _ _ c.all.ensures.ran (YieldsList-from_range 0 c.blocks-2.result c.blocks-2.result refl (omega arith)) (λ x b q k. search (rules, tests)) ∙ range_all f c.blocks-2.result)
