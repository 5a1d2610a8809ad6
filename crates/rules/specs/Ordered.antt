-- "Order: 12, 1, then per command 2, 3, 4, 5, 8, 6, 7, 9, 10, 11", with the tests that document 02 puts in: every command's tests stand in this order, and of the
-- numbers that a command earns the first is given. It follows from the tests (proofs/Ordered.antt).
use Rattle.std.specs.Prelude.{ℕ, ◌≡◌, Bool, true, false, not, ◌&&◌, ◌||◌, cond, List, [], ◌∷◌, map, eqb}
use Rattle.rules.specs.Bytes.{Command}
use Rattle.rules.specs.State.{State}
use Rattle.rules.specs.Steps.{Test, tests, refuse, check}

-- The papers' list for one command. 13 and 14 are "tested just before 5" (document 02 [1]), 16 and 17 "after 3" ([9], [10]), 18 and 19 "just after 5" and 20 "last" ([11]):
-- a command that is added later finds the places of its tests here. 2 and 3 are given where the bytes are read (Bytes).
abbrev pub paper : List ℕ
paper = 2 ∷ 3 ∷ 16 ∷ 17 ∷ 4 ∷ 13 ∷ 14 ∷ 5 ∷ 18 ∷ 19 ∷ 8 ∷ 6 ∷ 7 ∷ 9 ∷ 10 ∷ 11 ∷ 20 ∷ []

-- a list from number n on
abbrev pub from : ℕ → List ℕ → List ℕ
from n [] = []
from n (o ∷ os) = cond (eqb n o) (o ∷ os) (from n os)

abbrev pub there : List ℕ → Bool
there [] = false
there (o ∷ os) = true

-- each number stands in the list, and none before the one ahead of it; one may come twice in a row
abbrev pub follows : List ℕ → List ℕ → Bool
follows [] os = true
follows (n ∷ ns) os = there (from n os) && follows ns (from n os)

-- some test of this number fails
abbrev pub earns : ℕ → List Test → Bool
earns n [] = false
earns n (g ∷ gs) = (eqb n g.number && not g.passes) || earns n gs

pub record Ordered (s : State) (c : Command) : Type 0 where
  pub in_order : follows (map (λ (g : Test). g.number) (tests s c)) paper ≡ true
  pub first : (n m : ℕ) → check s c ≡ refuse n → earns m (tests s c) ≡ true → there (from m (from n paper)) ≡ true  -- m is n, or stands behind it

abbrev pub AlwaysOrdered : Type 0
AlwaysOrdered = (s : State) (c : Command) → Ordered s c
