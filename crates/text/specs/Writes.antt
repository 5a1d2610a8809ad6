-- What a method does to its writer.
use Rattle.std.specs.Prelude.{◌≡◌, List, ℕ, length}
use Rattle.text.specs.declared.Writer.{Writer}
use Rattle.text.specs.Wrote.{Wrote}

-- It wrote the text, of at most `room` bytes, into the same buffer, and stands behind it.
pub record Writes (w w' : Writer) (text : List ℕ) (room : ℕ) : Type 0 where
  pub same : w'.buf.ghost_name ≡ w.buf.ghost_name
  pub long : length w'.buf.now ≡ length w.buf.now
  pub wrote : Wrote w.buf.now w.at text room w'.at w'.buf.now
