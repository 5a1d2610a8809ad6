-- The chain's `all` over the bytes is the rules' `all` over their places.
use Rattle.std.proofs.Common.{◌≡◌, ◌∙◌, ◌↔◌, ℕ, Bool, true, IsTrue, EachIndex, slice_index, length, ltb, ◌<◌, sym, rules}
use borrow.Author.Tests.{lt-ltb, ltb-true}
use Rattle.rules.specs.Table.{all}
use Rattle.rules.specs.Bytes.{byte}
use Rattle.rules.proofs.Table.{bool, all_at, all_intro}
use Rattle.wire.proofs.owners_below.Goals as goal

pub returns : goal.returns
returns c =
    let o = c.args.owners.now in
    let below : ℕ → Bool = λ k. ltb (byte o k) c.args.n in
    let h : IsTrue c.all.result ↔ EachIndex o (λ k. slice_index o k < c.args.n) = search rules in
    bool c.all.result
    (λ t. t ∙ sym (all_intro (length o) below (λ k l. lt-ltb _ _ (h.0 t k l))))
    (λ f. bool (all (length o) below) (λ t. (let y : c.all.result ≡ true = h.1 (λ k l. ltb-true _ _ (all_at (length o) below t k l)) in y ∙ sym t)) (λ e. f ∙ sym e))
