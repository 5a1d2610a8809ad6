-- Before each owner those before it stand there.
use Prim.Native.Nat.{◌+◌}
use mathlib.Core.Path.{◌≡◌, sym}
use mathlib.Core.List.{[], ◌∷◌, ◌++◌}
use native.Mathlib.Numerals.{add-one}
use native.Mathlib.Omega.{arith}
use lib.ListN.{get_or, take}
use lib.Seq.{take-suc}
use Rattle.text.proofs.Writing.{writes_next}
use Rattle.writing.proofs.put_owners.Goals as goal

pub loop-owner-preserved : goal.loop-owner-preserved
loop-owner-preserved c =
    let k = c.loop-owner.owner-index in
    let o = c.args.owners.now in
    let more : take k o ++ get_or o k 0 ∷ [] ≡ take (k + 1) o = rw add-one (sym (take-suc o k 0 (omega arith))) in
    writes_next more c.loop-owner.invariant c.put.ensures (omega arith)
