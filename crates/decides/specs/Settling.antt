-- What becomes of a save that is decided.
use Rattle.std.specs.Prelude.{ℕ, ◌+◌, ◌*◌, ◌≤◌, ◌<◌, ◌≡◌, Bool, true, false, ◌≢◌, List, length, get_or, set}
use Rattle.sets.specs.Bit.{word, stride, blocks}
use Rattle.state.specs.View.{PHASE, FAILED, RUNS, NODES, COPIED, WRITTEN, rows}

-- sets of m sheets, where save t has its copies
pub record Clears (m t : ℕ) (s : List ℕ) : Type 0 where
  pub save : t < 32
  pub sheets : m < 65536
  pub sets : stride * blocks m + rows ≤ length s + stride

-- the bytes as well, with room for one more run
pub record Settles (m t : ℕ) (b s : List ℕ) : Type 0 where
  pub clears : Clears m t s
  pub bytes : NODES ≤ length b
  pub runs : get_or b (RUNS + t) 0 < 255

-- in n blocks save t has no copy any more; the rest is as it was
pub record Cleared (n t : ℕ) (s s' : List ℕ) : Type 0 where
  pub long : length s' ≡ length s
  pub copied : (j : ℕ) → j < n → word s' (COPIED + t) j ≡ 0
  pub written : (j : ℕ) → j < n → word s' (WRITTEN + t) j ≡ 0
  pub rest : (i j : ℕ) → i < rows → i ≢ COPIED + t → i ≢ WRITTEN + t → word s' i j ≡ word s i j

-- committed, or in its next run
abbrev pub Settled : (m t : ℕ) (b s b' s' : List ℕ) → (commits : Bool) → Type 0
Settled m t b s b' s' true = (get_or b (FAILED + t) 0 ≡ 0) × (b' ≡ set b (PHASE + t) 4) × (s' ≡ s)
Settled m t b s b' s' false =
    (get_or b (FAILED + t) 0 ≢ 0) × (b' ≡ set (set b (RUNS + t) (get_or b (RUNS + t) 0 + 1)) (PHASE + t) 3) × Cleared (blocks m) t s s'
