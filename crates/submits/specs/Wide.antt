-- What a save's copies ask for beyond its claim.
use Rattle.std.specs.Prelude.{ℕ, ◌+◌, Bool, not, ◌&&◌, ◌||◌, List}
use Rattle.rules.specs.State.{wide_by}
use Rattle.sets.specs.Bit.{bit, word}
use Rattle.state.specs.View.{claim_in, mark_of, in_set, COPIED, WRITTEN, CLAIM, CLAIM_X}

-- save t's at digit c of block j
unfoldable pub asks : List ℕ → (t j c : ℕ) → Bool
asks s t j c = (bit (word s (COPIED + t) j) c && not (bit (word s (CLAIM + t) j) c)) || (bit (word s (WRITTEN + t) j) c && not (bit (word s (CLAIM_X + t) j) c))

-- save t's run is wide, by the sets alone
abbrev pub wide_in : ℕ → List ℕ → ℕ → Bool
wide_in m s t = wide_by m (claim_in m s t) (λ k. mark_of (in_set m COPIED s t k) (in_set m WRITTEN s t k))
