-- A save's entries are gone at some sheets.
use Rattle.std.specs.Prelude.{ℕ, ◌+◌, ◌<◌, ◌≡◌, Bool, not, ◌&&◌, ◌≢◌, List, length, get_or, eqb}
use Rattle.sets.specs.Bit.{in_row, word}
use Rattle.state.specs.View.{queued, queued_x, QUEUE, HELD, rows}
use Rattle.state.specs.Fit.{Ends}

-- ---- In the queues

-- save t is gone from those of the sheets `hit`; nothing else has changed
pub record Gone (m t : ℕ) (hit : ℕ → Bool) (q q' : List ℕ) : Type 0 where
  pub long : length q' ≡ length q
  pub queue : (k u : ℕ) → k < m → queued m q' k u ≡ (queued m q k u && not (hit k && eqb u t))
  pub queue_x : (k u : ℕ) → k < m → queued_x m q' k u ≡ (queued_x m q k u && not (hit k && eqb u t))
  pub ahead : (i : ℕ) → i < QUEUE → get_or q' i 0 ≡ get_or q i 0

-- ---- In the save's own set too

-- save t's are gone at the sheets `hit`, from the queues, the X in them and its own set; nothing else has changed
pub record Left (m t : ℕ) (hit : ℕ → Bool) (s q s' q' : List ℕ) : Type 0 where
  pub long_s : length s' ≡ length s
  pub long_q : length q' ≡ length q
  pub queue : (k u : ℕ) → k < m → queued m q' k u ≡ (queued m q k u && not (hit k && eqb u t))
  pub queue_x : (k u : ℕ) → k < m → queued_x m q' k u ≡ (queued_x m q k u && not (hit k && eqb u t))
  pub ahead : (i : ℕ) → i < QUEUE → get_or q' i 0 ≡ get_or q i 0
  pub held : (k : ℕ) → k < m → in_row s' (HELD + t) k ≡ (in_row s (HELD + t) k && not (hit k))
  pub rest : (i j : ℕ) → i < rows → i ≢ HELD + t → word s' i j ≡ word s i j
  pub ends : Ends m s'
