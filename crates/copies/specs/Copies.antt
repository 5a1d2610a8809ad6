-- What WRITE asks of bytes and sets.
use Rattle.std.specs.Prelude.{ℕ, ◌+◌, ◌*◌, ◌≤◌, ◌≡◌, true, List, length}
use Rattle.sets.specs.Bit.{stride, blocks}
use Rattle.state.specs.View.{in_set, COPIED, WRITTEN, ORDER, rows}

pub record Copies (m : ℕ) (b s : List ℕ) : Type 0 where
  pub bytes : ORDER ≤ length b
  pub sets : stride * blocks m + rows ≤ length s + stride
  pub written : (t k : ℕ) → in_set m WRITTEN s t k ≡ true → in_set m COPIED s t k ≡ true
