-- A session's slices, in the order in which they are lent.
use Rattle.std.specs.Prelude.{ℕ, List}

pub record Slices : Type 0 where
  pub bytes : List ℕ  -- phases, failed marks, runs (32 each), node count, then the save at each place
  pub sets : List ℕ  -- sets of sheets, a row of words each: by save copied, written, claim, claim of X, with an entry; by node owned
  pub queues : List ℕ  -- last places (32), places taken (8), number of places; then sets of saves: those before each (32), all placed, then by sheet its queue and the X in it
  pub value : List ℕ  -- a row for each save: the contents of its copies
  pub seen : List ℕ  -- a row for each save: the WCTs seen
  pub sheets : List ℕ  -- the sheets' contents, then their WCTs

abbrev pub slices : (b s q value seen w : List ℕ) → Slices
slices b s q value seen w = record { bytes = b; sets = s; queues = q; value = value; seen = seen; sheets = w }
