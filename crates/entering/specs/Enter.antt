-- What the loops over a save's sheets do: entries added, sheets that fail, the first of them.
use Rattle.std.specs.Prelude.{ℕ, ◌+◌, ◌*◌, ◌/◌, ◌<◌, ◌≡◌, Bool, true, false, ◌&&◌, ◌||◌, cond, List, ◌≢◌, length, get_or, eqb, ltb, Option, None, Some}
use Rattle.rules.specs.Table.{any}
use Rattle.sets.specs.Bit.{bit, low, word, in_row, blocks}
use Rattle.sets.specs.Loop.{before_block}
use Rattle.state.specs.View.{rows, COPIED, CLAIM, CLAIM_X, HELD, OWNED, QUEUE}

-- ---- Entries

-- save t has entered the queues of the sheets `hit`, with an X at `hitx`
pub record Entered (m t : ℕ) (hit hitx : ℕ → Bool) (q q' : List ℕ) : Type 0 where
  pub long : length q' ≡ length q
  pub queue : (k u : ℕ) → k < m → bit (get_or q' (QUEUE + 2 * k) 0) u ≡ (bit (get_or q (QUEUE + 2 * k) 0) u || (hit k && eqb u t))
  pub queue_x : (k u : ℕ) → k < m → bit (get_or q' (QUEUE + 2 * k + 1) 0) u ≡ (bit (get_or q (QUEUE + 2 * k + 1) 0) u || (hitx k && eqb u t))
  pub rest : (i : ℕ) → i < QUEUE → get_or q' i 0 ≡ get_or q i 0

-- ---- Sheets that fail

-- there is a copy, whose WCT is below the sheet's
abbrev pub is_behind : (m : ℕ) (seen w : List ℕ) (t : ℕ) (copied : Bool) (k : ℕ) → Bool
is_behind m seen w t copied k = copied && ltb (get_or seen (t * m + k) 0) (get_or w (m + k) 0)

-- the queue holds an X, or the counter is behind
abbrev pub late : (m : ℕ) (q seen w : List ℕ) (t : ℕ) (copied : Bool) (k : ℕ) → Bool
late m q seen w t copied k = any 64 (bit (get_or q (QUEUE + 2 * k + 1) 0)) || is_behind m seen w t copied k

-- save t claims the sheet, which is node n's
abbrev pub ours : (s : List ℕ) (n t k : ℕ) → Bool
ours s n t k = in_row s (CLAIM + t) k && in_row s (OWNED + n) k

abbrev pub ours_x : (s : List ℕ) (n t k : ℕ) → Bool
ours_x s n t k = ours s n t k && in_row s (CLAIM_X + t) k

abbrev pub fails : (m : ℕ) (s q seen w : List ℕ) (n t k : ℕ) → Bool
fails m s q seen w n t k = ours s n t k && late m q seen w t (in_row s (COPIED + t) k) k

-- sheet f is the first of those in blocks before j that passes the test
pub record FirstAt (test : ℕ → Bool) (m j f : ℕ) : Type 0 where
  pub here : f < m
  pub block : f / 64 < j
  pub passes : test f ≡ true
  pub lower : (k : ℕ) → k < f → test k ≡ false

-- the first one, or none passes
abbrev pub First : (test : ℕ → Bool) (m j : ℕ) → Option ℕ → Type 0
First test m j None = (k : ℕ) → k < m → k / 64 < j → test k ≡ false
First test m j (Some f) = FirstAt test m j f

-- the first sheet of block j, of those whose digits are in `fails`
abbrev pub first_of : (j fails : ℕ) → Option ℕ
first_of j fails = cond (eqb fails 0) None (Some (64 * j + low fails))

-- ---- The save's set of entries

-- it has those of the blocks before j; the other rows are as they were
pub record Held (m n t j : ℕ) (s s' : List ℕ) : Type 0 where
  pub long : length s' ≡ length s
  pub here : (i c : ℕ) → i < blocks m → bit (word s' (HELD + t) i) c ≡ (bit (word s (HELD + t) i) c || (ltb i j && (bit (word s (CLAIM + t) i) c && bit (word s (OWNED + n) i) c)))
  pub rest : (r i : ℕ) → r < rows → i < blocks m → r ≢ HELD + t → word s' r i ≡ word s r i

-- the blocks before j are done
pub record Rowing (m n t : ℕ) (seen w s s' q q' : List ℕ) (first : Option ℕ) (j : ℕ) : Type 0 where
  pub entered : Entered m t (before_block j (ours s n t)) (before_block j (ours_x s n t)) q q'
  pub held : Held m n t j s s'
  pub found : First (fails m s q seen w n t) m j first
