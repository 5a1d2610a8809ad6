-- What the commands may rely on: what the slices keep, and what holds of the state in every state that commands lead to.
use Rattle.std.specs.Prelude.{ℕ, ◌+◌, ◌*◌, ◌≤◌, ◌<◌, ◌≡◌, true, false, ◌&&◌, ◌||◌, List, length, get_or, eqb, ltb}
use Rattle.rules.specs.State.{State, is_first, is_submitted, is_second, running, claims, at}
use Rattle.rules.specs.Steps.{mem, has_taken}
use Rattle.sets.specs.Bit.{bit, word, stride, blocks}
use Rattle.state.specs.Slices.{Slices}
use Rattle.state.specs.declared.Session.{Session}
use Rattle.state.specs.View.{member, in_set, owner_in, placed, place_in, order_in, queued, queued_x, bare, part, COPIED, WRITTEN, CLAIM, CLAIM_X, HELD, OWNED, ORDER, QUEUE, BEFORE, JOINED, rows}

-- places that the order has room for
abbrev pub most_places : ℕ
most_places = 2752

-- ---- Sizes, which a slice does not tell

pub record Sized (m : ℕ) (b s q : List ℕ) : Type 0 where
  pub bytes : ORDER + most_places ≤ length b
  pub sets : stride * blocks m + rows ≤ length s + stride  -- each block has all rows
  pub queues : QUEUE + 2 * m ≤ length q
  pub fits : placed q ≤ most_places

-- rows of m, n of them
abbrev pub Table : ℕ → ℕ → List ℕ → Type 0
Table n m l = n * m ≤ length l

-- ---- Sets that say one thing twice

-- no word has a member past the m sheets
abbrev pub Ends : (m : ℕ) → List ℕ → Type 0
Ends m s = (i j c : ℕ) → i < rows → j < blocks m → c < 64 → m ≤ 64 * j + c → bit (word s i j) c ≡ false

-- what is written is copied, an X is a claim; each sheet is in its owner's set alone
pub record Sets (m : ℕ) (s : List ℕ) : Type 0 where
  pub written : (t k : ℕ) → in_set m WRITTEN s t k ≡ true → in_set m COPIED s t k ≡ true
  pub claimed : (t k : ℕ) → in_set m CLAIM_X s t k ≡ true → in_set m CLAIM s t k ≡ true
  pub owners : (n k : ℕ) → n < 8 → k < m → member m s (OWNED + n) k ≡ eqb (owner_in m s 8 k) n
  pub ends : Ends m s

-- save u has a last place
abbrev pub Listed : (order : List ℕ) (place : ℕ → ℕ) (placed : ℕ) → ℕ → Type 0
Listed order place placed u = (place u < placed) × (at order (place u) ≡ u)

-- so in the slices
abbrev pub Last : (b q : List ℕ) → ℕ → Type 0
Last b q u = Listed (order_in b) (place_in q) (placed q) u

-- queues by sheet against sets by save
pub record Queues (m : ℕ) (b s q : List ℕ) : Type 0 where
  pub held : (u k : ℕ) → u < 32 → k < m → in_set m HELD s u k ≡ queued m q k u
  pub exclusive : (u k : ℕ) → u < 32 → k < m → queued_x m q k u ≡ (queued m q k u && in_set m CLAIM_X s u k)
  pub saves : (u k : ℕ) → k < m → queued m q k u ≡ true → u < 32
  pub saves_x : (u k : ℕ) → k < m → queued_x m q k u ≡ true → u < 32
  pub listed : (u k : ℕ) → k < m → queued m q k u ≡ true → Last b q u

-- who is placed, and before whom
pub record Places (b q : List ℕ) : Type 0 where
  pub before : (u v : ℕ) → u < 32 → v < 32 → Last b q u → Last b q v → bit (part BEFORE 32 q u) v ≡ ltb (place_in q v) (place_in q u)
  pub among : (u v : ℕ) → u < 32 → bit (part BEFORE 32 q u) v ≡ true → bit (get_or q JOINED 0) v ≡ true
  pub joined : (u : ℕ) → u < 32 → Last b q u → bit (get_or q JOINED 0) u ≡ true
  pub last : (u : ℕ) → bit (get_or q JOINED 0) u ≡ true → (u < 32) × Last b q u

-- of bytes, sets and queues
pub record Kept (m : ℕ) (b s q : List ℕ) : Type 0 where
  pub sized : Sized m b s q
  pub sets : Sets m s
  pub queues : Queues m b s q
  pub places : Places b q

-- what every command keeps
pub record Fit (m : ℕ) (x : Slices) : Type 0 where
  pub kept : Kept m x.bytes x.sets x.queues
  pub value : Table 32 m x.value
  pub seen : Table 32 m x.seen
  pub sheets : Table 2 m x.sheets

-- ---- What holds in every state that commands lead to: from the theorem's invariant

pub record Known (s : State) : Type 0 where
  pub nodes8 : s.header.nodes ≤ 8
  pub sheets16 : s.header.sheets < 65536  -- rows of m are in reach
  pub owners : (k : ℕ) → k < s.header.sheets → s.header.owner k < 8
  pub takens : (n : ℕ) → n < 8 → s.taken n ≤ length s.order
  pub small : (q : ℕ) → q < length s.order → at s.order q < 32  -- a save has a row in every table
  pub joined : (q : ℕ) → q < length s.order → is_first (s.phase (at s.order q)) ≡ false  -- a placed save is past its first run
  pub stands : (t : ℕ) → t < 32 → (is_submitted (s.phase t) || is_second (s.phase t)) ≡ true → (s.place t < length s.order) × (at s.order (s.place t) ≡ t)  -- one that waits and a later run have a place
  pub room : (t : ℕ) → t < 32 → running (s.phase t) ≡ true → length s.order < most_places  -- a running save finds a place
  pub runs : (t : ℕ) → t < 32 → s.runs t < 255  -- one more fits
  pub entered : (u k : ℕ) → mem u (s.queue k) ≡ true → s.place u < s.taken (s.header.owner k)  -- an entry's place is taken
  pub claimed : (u k : ℕ) → mem u (s.queue k) ≡ true → claims (s.claim u k) ≡ true  -- and its sheet claimed
  pub waits : (t k : ℕ) → is_submitted (s.phase t) ≡ true → mem t (s.queue k) ≡ (claims (s.claim t k) && has_taken s (s.header.owner k) t)  -- one that waits has an entry at each claimed sheet whose node has taken it

-- a write counter can rise, and has 16 bits, as in a copy
abbrev pub Rising : ℕ → List ℕ → Type 0
Rising m w = (k : ℕ) → part m m w k < 65535

-- of bytes, sets and queues: what they keep and what is known
pub record Ready (m : ℕ) (b s q : List ℕ) : Type 0 where
  pub kept : Kept m b s q
  pub known : Known (bare m b s q)

-- so of a session
abbrev pub ReadyIn : Session → Type 0
ReadyIn x = Ready x.m x.bytes.now x.sets.now x.queues.now
