-- A set's members, one by one.
use Rattle.std.specs.Prelude.{ℕ, ◌≡◌, ◌≢◌, Option, MatchOption}
use Rattle.sets.specs.declared.Walk.{Walk}
use Rattle.sets.specs.Bit.{low, Rest}

-- the lowest member of what is left comes, and the rest is left; none comes where nothing is left
abbrev pub NextMember : Walk → Option ℕ → Walk → Type 0
NextMember s r s' = MatchOption r ((s.left ≡ 0) × (s'.left ≡ 0)) (λ k. (s.left ≢ 0) × (k ≡ low s.left) × Rest s.left s'.left)
