-- The front entry by sets of saves.
use Rattle.std.specs.Prelude.{ℕ, ◌<◌, ◌≡◌, Bool, true, false, not, ◌&&◌, List, ltb}
use Rattle.rules.specs.Table.{any}
use Rattle.sets.specs.Bit.{bit}
use Rattle.state.specs.View.{part, BEFORE}

-- the saves x stand one behind the other: each has a rank of its own, and has before it those of a lower one
pub record Ranked (q : List ℕ) (x : ℕ) : Type 0 where
  pub rank : ℕ → ℕ
  pub small : (u : ℕ) → bit x u ≡ true → u < 32
  pub before : (u v : ℕ) → bit x u ≡ true → bit x v ≡ true → bit (part BEFORE 32 q u) v ≡ ltb (rank v) (rank u)
  pub apart : (u v : ℕ) → bit x u ≡ true → bit x v ≡ true → rank u ≡ rank v → u ≡ v

-- u is the one of x that has none of x before it
pub record Front (q : List ℕ) (x u : ℕ) : Type 0 where
  pub there : bit x u ≡ true
  pub none : (v : ℕ) → bit x v ≡ true → bit (part BEFORE 32 q u) v ≡ false

-- of the saves x, some one of y has none of x before it
unfoldable pub fronted : (q : List ℕ) (x y : ℕ) → Bool
fronted q x y = any 64 (λ u. bit y u && not (any 64 (λ v. bit x v && bit (part BEFORE 32 q u) v)))
