-- Two counts, the owners, the steps.
use Rattle.text.proofs.Writing.{wrote_then, wrote_back}
use Rattle.writing.proofs.Whole.{whole_as}
use borrow.Author.Rules.{rules}
use Rattle.writing.proofs.put_session.Goals as goal

pub returns : goal.returns
returns c =
    let a = c.args in
    let all = wrote_then (wrote_then (wrote_then c.put.ensures.wrote c.put-2.ensures.wrote) c.put_owners.ensures.wrote) c.put_steps.ensures.wrote in
    wrote_back (whole_as a.nodes a.sheets a.owners.now a.steps.now c.requires.0 c.requires.1 all) (search rules)
