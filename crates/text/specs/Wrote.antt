-- What a writer does to a lent buffer.
use Rattle.std.specs.Prelude.{◌≡◌, List, ℕ, ◌+◌, ◌≤◌, length}
use Rattle.std.proofs.lemmas.List.Edits.{sets}

-- The text, of at most `room` bytes, was stored from `at` on, `end` is the place behind it, and no other byte changed.
pub record Wrote (before : List ℕ) (at : ℕ) (text : List ℕ) (room end : ℕ) (after : List ℕ) : Type 0 where
  pub ends : end ≡ at + length text
  pub bytes : after ≡ sets before at text
  pub short : length text ≤ room
