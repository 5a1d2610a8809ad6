-- Behind the two counts, where the session opens; what a host makes of it is the rules' theorem.
use mathlib.Core.Path.{sym, ◌∙◌}
use native.Mathlib.Omega.{arith}
use Rattle.rules.proofs.Writing.{owners_there, three_calls}
use Rattle.cusphewa.proofs.Lists.{no_owners, owners_at}
use Rattle.cusphewa.proofs.cusphewa_owners.Goals as goal

pub returns-in-None : goal.returns-in-None
returns-in-None c =
    let t = no_owners _ (sym c.read_header.ensures ∙ c.in-None.is) in
    record {
      value = t.0;
      decoded = t.1;
      there = owners_there _;
      three_calls = three_calls _ (λ i. omega (arith, c.type_inv.session i));
    }

pub returns-in-Some : goal.returns-in-Some
returns-in-Some c =
    let t = owners_at _ c.in-Some.header (sym c.read_header.ensures ∙ c.in-Some.is) in
    record {
      value = t.0;
      decoded = t.1;
      there = owners_there _;
      three_calls = three_calls _ (λ i. omega (arith, c.type_inv.session i));
    }
