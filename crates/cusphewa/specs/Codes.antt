-- Parts of a session, and as numbers for the host.
use Rattle.std.specs.Prelude.{ℕ, ◌+◌, ◌*◌, ◌≤◌, ◌≡◌, List, length}
use Rattle.rules.specs.Sizes.{max_session}
use Rattle.rules.specs.Calls as calls

-- the part of session b that is shown, which is no longer than one may be
pub record PartOf (b : List ℕ) (from size : ℕ) : Type 0 where
  pub part : record { from = from; size = size } ≡ calls.part b
  pub within : from + size ≤ length b
  pub near : from + size ≤ max_session

-- offset * 2^32 + size
abbrev pub part_code : calls.Part → ℕ
part_code p = p.from * 4294967296 + p.size
