-- The rules' sheets and tally, from the slice and numbers that the writers are given, and parts of lines.
use Rattle.std.specs.Prelude.{ℕ, ◌+◌, ◌/◌, ◌%◌, List, [], ◌∷◌, ◌++◌, get_or}
use Rattle.rules.specs.State.{Sheet, Tally}
use Rattle.rules.specs.Report.{field, line_end}

-- the contents of m sheets and, behind these, their WCTs
abbrev pub sheets_of : (m : ℕ) → (w : List ℕ) → ℕ → Sheet
sheets_of m w k = record { content = get_or w k 0; wct = get_or w (m + k) 0 }

abbrev pub tally_of : (accepted first second : ℕ) → Tally
tally_of a f s = record { accepted = a; from_first = f; from_second = s }

-- ---- Parts of lines

abbrev pub last_two : ℕ → List ℕ
last_two n = (48 + n / 10 % 10) ∷ (48 + n % 10) ∷ []

-- a letter and two fields
abbrev pub opening : (letter a b : ℕ) → List ℕ
opening letter a b = letter ∷ (field a ++ field b)

-- a line with three fields
abbrev pub three : (letter a b c : ℕ) → List ℕ
three letter a b c = opening letter a b ++ field c ++ line_end ∷ []
