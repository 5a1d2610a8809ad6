-- Whether a save's entries are granted, a block of sheets at a time.
use Rattle.std.specs.Prelude.{ℕ, ◌+◌, ◌*◌, ◌≤◌, ◌<◌, Bool, true, false, not, ◌&&◌, cond, List, length, get_or}
use Rattle.rules.specs.Table.{all, any}
use Rattle.sets.specs.Bit.{bit, word, stride, blocks}
use Rattle.state.specs.View.{CLAIM, CLAIM_X, HELD, BEFORE, QUEUE, rows}
use Rattle.state.specs.Fit.{Ends}

-- sets and queues of m sheets, where save t is looked for
pub record Fits (m t : ℕ) (s q : List ℕ) : Type 0 where
  pub save : t < 32
  pub sheets : m < 65536
  pub sets : stride * blocks m + rows ≤ length s + stride
  pub queues : QUEUE + 2 * m ≤ length q
  pub ends : Ends m s

-- both or neither
abbrev pub same : Bool → Bool → Bool
same true b = b
same false b = not b

-- the entries at sheet i of block j that would stand in save t's way: any does in an X's, an X does in an S's
abbrev pub way : (s q : List ℕ) (t j i : ℕ) → ℕ
way s q t j i = cond (bit (word s (CLAIM_X + t) j) i) (get_or q (QUEUE + 2 * (64 * j + i)) 0) (get_or q (QUEUE + 2 * (64 * j + i) + 1) 0)

-- save u has one of them, at a sheet that save t claims
unfoldable pub in_ways : (s q : List ℕ) (t j u : ℕ) → Bool
in_ways s q t j u = any 64 (λ i. bit (word s (CLAIM + t) j) i && bit (way s q t j i) u)

-- save t has an entry at every sheet that it claims, and nobody stands in its way who is placed before it
unfoldable pub block_granted : (s q : List ℕ) (t j : ℕ) → Bool
block_granted s q t j =
    all 64 (λ i. same (bit (word s (HELD + t) j) i) (bit (word s (CLAIM + t) j) i)) && not (any 64 (λ u. in_ways s q t j u && bit (get_or q (BEFORE + t) 0) u))
