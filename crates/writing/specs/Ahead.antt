-- Writing that runs ahead of itself: some bytes behind a text are stored too.
use Rattle.std.specs.Prelude.{ℕ, ◌%◌, ◌≡◌, List, ◌∷◌, length}
use Rattle.std.proofs.lemmas.List.Edits.{sets}
use Rattle.rules.specs.Writing.{in_bytes}
use Rattle.text.specs.declared.Writer.{Writer}
use Rattle.text.specs.Wrote.{Wrote}

-- The writer keeps its buffer and stands behind the text: `settled` has the text and no other change.
pub record Ahead (w w' : Writer) (text : List ℕ) : Type 0 where
  pub same : w'.buf.ghost_name ≡ w.buf.ghost_name
  pub long : length w'.buf.now ≡ length w.buf.now
  pub settled : List ℕ
  pub wrote : Wrote w.buf.now w.at text (length text) w'.at settled
  pub spare : List ℕ
  pub bytes : w'.buf.now ≡ sets settled w'.at spare

-- a step as if it had every operand
abbrev pub spread : (c x y z : ℕ) → List ℕ
spread c x y z = c % 256 ∷ x % 256 ∷ y % 256 ∷ in_bytes 4 z
