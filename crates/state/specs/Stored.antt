-- A word stored, by its members.
use Rattle.std.specs.Prelude.{ℕ, ◌≡◌, Bool, ◌≢◌, List, length, get_or}
use Rattle.sets.specs.Bit.{bit}

-- the word at place `a` has the members f now, the others are as they were
pub record Stored (a : ℕ) (f : ℕ → Bool) (l l' : List ℕ) : Type 0 where
  pub long : length l' ≡ length l
  pub here : (c : ℕ) → bit (get_or l' a 0) c ≡ f c
  pub rest : (i : ℕ) → i ≢ a → get_or l' i 0 ≡ get_or l i 0
