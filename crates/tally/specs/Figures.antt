-- The rules' figures of a tally.
use Rattle.std.specs.Prelude.{ℕ, ◌+◌, ◌<◌}
use Rattle.rules.specs.State as rules
use Rattle.tally.specs.declared.Tally.{Tally}

abbrev pub figures : Tally → rules.Tally
figures a = record { accepted = a.accepted; from_first = a.first; from_second = a.second }

abbrev pub plus : Tally → (a f s : ℕ) → Tally
plus t a f s = record { accepted = t.accepted + a; first = t.first + f; second = t.second + s }

-- one more fits
pub record Room (a : Tally) : Type 0 where
  pub accepted : a.accepted < 4294967295
  pub first : a.first < 4294967295
  pub second : a.second < 4294967295
