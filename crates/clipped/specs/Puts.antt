-- What a method does to its room: what a writer's does to a writer that stands there.
use Rattle.std.specs.Prelude.{List, ℕ}
use Rattle.text.specs.declared.Writer.{Writer}
use Rattle.text.specs.Writes.{Writes}
use Rattle.clipped.specs.declared.Room.{Room}

abbrev pub writer_at : Room → Writer
writer_at r = record { buf = r.bytes; at = r.at }

abbrev pub Puts : (r r' : Room) (text : List ℕ) (room : ℕ) → Type 0
Puts r r' text room = Writes (writer_at r) (writer_at r') text room
