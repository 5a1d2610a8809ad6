use Rattle.takes.proofs.Ruling.{rule_asked}
use Rattle.takes.proofs.take_last.Goals as goal

pub rule_at-rule-requires : goal.rule_at-rule-requires
rule_at-rule-requires c = let p = c.requires in let g = c.in-Some.ensures.rowing in let o = c.in-Some.ensures.only in
    rw o.same.0 (rule_asked c.args.x.now.bytes.now g p.0 p.6 p.1 p.4)
