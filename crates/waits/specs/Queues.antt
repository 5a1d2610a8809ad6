-- A queue's lines, by its saves from the front and the X among them.
use Rattle.std.specs.Prelude.{ℕ, ◌<◌, ◌≡◌, Bool, true, List, [], ◌∷◌, ◌++◌}
use Prim.Native.Char.{code}
use Rattle.rules.specs.State.{shared}
use Rattle.rules.specs.Report.{field, line_end}
use Rattle.rules.specs.Showing.{each, lettered, opening, claim_letter, ways}
use Rattle.state.specs.View.{claim_of, claim_in, queued, queued_x}

-- those of a list that pass the test, as an S waits for the X among them
abbrev pub those : (ℕ → Bool) → List ℕ → List ℕ
those f us = ways shared f us

-- G with no names, W with some
unfoldable pub names_text : List ℕ → List ℕ
names_text [] = lettered (code "G")
names_text (c ∷ names) = lettered (code "W") ++ c ∷ names

-- save u's line, with its claim's letter
unfoldable pub entry_text : (k u letter : ℕ) (names : List ℕ) → List ℕ
entry_text k u c names = opening (code "Q") k u ++ lettered c ++ names_text names ++ line_end ∷ []

-- behind the saves `us`
unfoldable pub line_behind : (x : ℕ → Bool) (k : ℕ) (us : List ℕ) (u : ℕ) → List ℕ
line_behind x k us u = entry_text k u (claim_letter (claim_of true (x u))) (each field (ways (claim_of true (x u)) x us))

-- the lines of `vs`, one behind the other
unfoldable pub lines_behind : (x : ℕ → Bool) (k : ℕ) (us vs : List ℕ) → List ℕ
lines_behind x k us [] = []
lines_behind x k us (v ∷ vs) = line_behind x k us v ++ lines_behind x k (us ++ v ∷ []) vs

-- what has an entry is claimed, as X where the queue has it as X
abbrev pub Claimed : (m : ℕ) (s q : List ℕ) → Type 0
Claimed m s q = (u k : ℕ) → k < m → queued m q k u ≡ true → claim_in m s u k ≡ claim_of true (queued_x m q k u)
