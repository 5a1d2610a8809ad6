-- What stands at the buffer's front is what was read.
use Rattle.std.proofs.Common.{rules, arith, length, take, ◌≡◌, ℕ, ◌+◌, ◌≤◌, List, ◌++◌, refl, sym, ap, subst, ◌∙◌, length-take-le}
use Rattle.std.proofs.lemmas.List.{take-append-le}
use Rattle.std.proofs.Math.Seq.{take-append-add}
use Rattle.std.proofs.KnownBytes.{Consumes-trans}
use Rattle.std.specs.Io.KnownBytes.{Consumes}
use Rattle.std.specs.declared.option.Option.{Option}
use borrow.Rule.Slice.PartMut.{put_mid, post_of}
use Rattle.intake.proofs.read_full.Goals as goal

-- what one read adds to the front
one_more : (a b c : Option (List ℕ)) (front k n m : ℕ) (xs ys : List ℕ) → front ≤ length xs → n ≤ length ys → m ≡ front + n
    → Consumes a b (take front xs) → Consumes b c (take n ys) → Consumes a c (take m (put_mid front k xs ys))
one_more a b c front k n m xs ys within fits e before read =
    let after = post_of front k xs in
    let behind : take (front + n) (put_mid front k xs ys) ≡ take front xs ++ take n ys =
    ap (λ j. take (j + n) (put_mid front k xs ys)) (sym (length-take-le front xs within)) ∙ take-append-add (take front xs) (ys ++ after) n
    ∙ ap (λ l. take front xs ++ l) (take-append-le n ys after fits) in
    rw e (subst (Consumes a c) (sym behind) (Consumes-trans a b c _ _ before read))

pub returns-in-0-clause-bytes : goal.returns-in-0-clause-bytes
returns-in-0-clause-bytes g c =
    let read = c.in_ok-n.ensures in
    one_more _ _ _ _ _ _ _ _ _ c.loop-done.invariant.1 read.bound.0 (omega (arith, c.in-0.is)) c.loop-done.invariant.2 read.bytes.0

pub loop-done-preserved : goal.loop-done-preserved
loop-done-preserved g c =
    let read = c.in_ok-n.ensures in
    (search rules, search rules, one_more _ _ _ _ _ _ _ _ _ c.loop-done.invariant.1 read.bound.0 refl c.loop-done.invariant.2 read.bytes.0)
