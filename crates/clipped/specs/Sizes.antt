-- How far a text may go.
use Rattle.std.specs.Prelude.{ℕ}

-- no text ends behind this place, so that places can be counted
abbrev pub most : ℕ
most = 4294967296
