-- The lines of the first rows, and the rows of the first saves in line, one at a time.
use mathlib.Core.Path.{◌≡◌, refl, sym, ap, ◌∙◌}
use mathlib.Core.Bool.{cond}
use mathlib.Core.List.{List, [], ◌∷◌, ◌++◌, map, map-append, append_assoc, append-nil}
use Prim.Native.Nat.{ℕ, zero, suc, ◌+◌, ◌*◌, ◌<◌}
use Prim.Native.Char.{code}
use native.Mathlib.Numerals.{add-one}
use native.Mathlib.Omega.{arith}
use lib.ListN.{length, get_or, take, set}
use lib.Seq.{take-suc, take-suc-set}
use lib.Dec.{eqb, ltb}
use borrow.Author.Tests.{ne_eqb, lt-ltb}
use Rattle.rules.specs.Report as rules
use Rattle.state.specs.View.{as_phase, PHASE, RUNS}
use Rattle.state.proofs.Parts.{part_in}
use Rattle.text.specs.declared.Writer.{Writer}
use Rattle.text.specs.Writes.{Writes}
use Rattle.text.proofs.Writing.{writes_none, writes_next}
use Rattle.rows.specs.declared.Row.{Row}
use Rattle.rows.specs.Rows.{row_of, lines_of, row_in}

abbrev pub line_of : Row → List ℕ
line_of x = rules.place_line (row_of x)

abbrev pub none : Row
none = record { save = 0; runs = 0; outcome = 0 }

lines_snoc : (xs : List Row) (y : Row) → lines_of xs ++ line_of y ≡ lines_of (xs ++ y ∷ [])
unfolding rules.place_lines
lines_snoc [] y = sym (append-nil (line_of y))
lines_snoc (x ∷ xs) y = append_assoc (line_of x) (lines_of xs) (line_of y) ∙ ap (λ (t : List ℕ). line_of x ++ t) (lines_snoc xs y)

module _ (rs : List Row) where
  abbrev pub upto : ℕ → List ℕ
  upto i = lines_of (take i rs)

  -- one row on
  pub row_on : {w v z : Writer} (i : ℕ) → i < length rs → Writes w v (upto i) (26 * i) → Writes v z (line_of (get_or rs i none)) 26 → Writes w z (upto (i + 1)) (26 * (i + 1))
  row_on i h p q = writes_next (lines_snoc (take i rs) (get_or rs i none) ∙ rw (add-one i, take-suc rs i none h)) p q (omega arith)

  pub row_none : (w : Writer) → Writes w w (upto 0) (26 * 0)
  unfolding rules.place_lines
  row_none w = writes_none w

-- ---- Rows made from the line

-- a phase's letter by its number
pub letter_code : (p : ℕ) → rules.letter (as_phase p) ≡ cond (eqb p 4) (code "C") (cond (ltb 4 p) (code "D") (code "U"))
letter_code zero = refl
letter_code (suc zero) = refl
letter_code (suc (suc zero)) = refl
letter_code (suc (suc (suc zero))) = refl
letter_code (suc (suc (suc (suc zero)))) = refl
letter_code (suc (suc (suc (suc (suc p))))) =
    rw (ne_eqb (suc (suc (suc (suc (suc p))))) 4 (λ e. omega arith), lt-ltb 4 (suc (suc (suc (suc (suc p))))) (omega arith))

-- a save's row as its bytes are read
pub row_read : (b : List ℕ) (t o : ℕ) → t < 32 → o ≡ rules.letter (as_phase (get_or b (PHASE + t) 0)) → row_of (record { save = t; runs = get_or b (RUNS + t) 0; outcome = o }) ≡ row_in b t
row_read b t o h e = rw (e, part_in RUNS 32 b t h, part_in PHASE 32 b t h)

-- one save on
pub row_more : (b line : List ℕ) (rs : List Row) (i : ℕ) (r : Row) → i < length rs → i < length line → row_of r ≡ row_in b (get_or line i 0)
    → map row_of (take i rs) ≡ map (row_in b) (take i line) → map row_of (take (i + 1) (set rs i r)) ≡ map (row_in b) (take (i + 1) line)
row_more b line rs i r h l e m = rw (add-one i, take-suc-set rs i r h, take-suc line i 0 l, map-append row_of, map-append (row_in b), m, e)
