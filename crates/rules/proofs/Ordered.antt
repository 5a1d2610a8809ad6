-- Every command's tests stand in the order of the papers, by computation; so the first that fails is the first in the papers' list.
use Prim.Native.Nat.{ℕ}
use mathlib.Core.Path.{◌≡◌, refl, sym}
use mathlib.Core.Bool.{true, false}
use mathlib.Core.List.{List, [], ◌∷◌, map}
use lib.Dec.{eqb}
use borrow.Author.Tests.{eqb-true}
use Rattle.rules.specs.Bytes.{Command, Begin, Read, Write, Submit, Take, Decide, Apply, GiveUp}
use Rattle.rules.specs.State.{State}
use Rattle.rules.specs.Steps.{Test, tests, first_failed, refuse}
use Rattle.rules.specs.Ordered.{paper, from, there, follows, earns, AlwaysOrdered}
use Rattle.rules.proofs.Table.{bool, clash, and_l, and_r}
use Rattle.rules.proofs.Tests.{refuse_pass}

abbrev numbers : List Test → List ℕ
numbers gs = map (λ (g : Test). g.number) gs

in_order : (s : State) (c : Command) → follows (numbers (tests s c)) paper ≡ true
in_order s (Begin t) = refl
in_order s (Read t k) = refl
in_order s (Write t k v) = refl
in_order s (Submit t) = refl
in_order s (Take n) = refl
in_order s (Decide t) = refl
in_order s (Apply n t) = refl
in_order s (GiveUp t) = refl

-- what stands behind a number stands in the list
from_from : (m n : ℕ) (os : List ℕ) → there (from m (from n os)) ≡ true → there (from m os) ≡ true
from_from m n [] e = e
from_from m n (o ∷ os) e =
    bool (eqb m o) (λ q. rw q)
    (λ q. bool (eqb n o) (λ y. rw y at e) (λ y. rw q (from_from m n os (rw y at e))))

from_same : (n : ℕ) (os : List ℕ) → from n (from n os) ≡ from n os
from_same n [] = refl
from_same n (o ∷ os) = bool (eqb n o) (λ q. rw (q, q)) (λ q. rw q (from_same n os))

-- what stands behind n further on stands behind n
from_on : (m n o : ℕ) (os : List ℕ) → there (from m (from n (from o os))) ≡ true → there (from m (from n os)) ≡ true
from_on m n o [] e = e
from_on m n o (x ∷ os) e =
    bool (eqb o x) (λ q. rw q at e)
    (λ q. bool (eqb n x) (λ y. rw y (in_tail (from_from m o os (from_from m n (from o os) (rw q at e))))) (λ y. rw y (from_on m n o os (rw q at e))))
  where
    in_tail : there (from m os) ≡ true → there (from m (x ∷ os)) ≡ true
    in_tail h = bool (eqb m x) (λ z. rw z) (λ z. rw z h)

-- a number that is earned stands in a list that the tests follow
earned_there : (m : ℕ) (gs : List Test) (os : List ℕ) → follows (numbers gs) os ≡ true → earns m gs ≡ true → there (from m os) ≡ true
earned_there m [] os f e = clash false e refl
earned_there m (g ∷ gs) os f e =
    let n = g.number in
    bool (eqb m n)
    (λ q. rw (eqb-true m n q) (and_l (there (from n os)) (follows (numbers gs) (from n os)) f))
    (λ q. from_from m n os (earned_there m gs (from n os) (and_r (there (from n os)) (follows (numbers gs) (from n os)) f) (rw q at e)))

first_given : (n m : ℕ) (gs : List Test) (os : List ℕ) → follows (numbers gs) os ≡ true → first_failed gs ≡ refuse n → earns m gs ≡ true → there (from m (from n os)) ≡ true
first_given n m [] os f e a = refuse_pass n (sym e)
first_given n m (g ∷ gs) os f e a =
    let o = g.number in
    bool g.passes
    (λ y. from_on m n o os (first_given n m gs (from o os) (and_r (there (from o os)) (follows (numbers gs) (from o os)) f) (rw y at e) (bool (eqb m o) (λ q. rw (y, q) at a) (λ q. rw q at a))))
    (λ y. let z : refuse o ≡ refuse n = rw y at e in
    let q : o ≡ n = cc in
    rw (← q) (earned_there m (g ∷ gs) (from o os) (rw (from_same o os) f) a))

pub ordered : AlwaysOrdered
ordered s c = record { in_order = in_order s c; first = λ n m. first_given n m (tests s c) paper (in_order s c) }
