-- The serial run of whole sessions, in figures, beside what the nodes hold and what the READs were answered. proofs/SerialCases.antt proves the table.
use Rattle.std.specs.Prelude.{ℕ, List, [], ◌∷◌}
use Prim.Native.String.{String, ◌++◌}
use Rattle.rules.specs.State.{Sheet}
use Rattle.rules.specs.Cases.{w, both_written}

-- a READ of the last run of a committed save: save and sheet, and the content that the serial run shows it, which is also what it was answered
pub record Shown : Type 0 where
  pub save : ℕ
  pub sheet : ℕ
  pub content : ℕ

-- of sheets 0 and 1
pub record SerialCase : Type 0 where
  pub session : String
  pub leaves : List Sheet  -- what the serial run leaves
  pub holds : List Sheet  -- what the nodes hold
  pub reads : List Shown

abbrev of : (content wct : ℕ) → Sheet
of v w = record { content = v; wct = w }

abbrev shown : (save sheet content : ℕ) → Shown
shown t k v = record { save = t; sheet = k; content = v }

-- One node with sheets 0 and 1. Save 0 writes sheet 0, save 2 sheet 1; both are carried out. Save 1 has read sheet 0 before, fails, opens sheet 1 in its second
-- run and writes it: its place is then behind save 2's, which it had been before.
abbrev by_last_place : String
by_last_place =
    "01 02 00 00  01 00  01 01  01 02  02 00 00  03 00 00 00 00 00 01  02 01 00  02 02 01  03 02 01 00 00 00 05  04 00  04 01  04 02  05 00  05 00  05 00  " ++ "06 00  07 00 00  06 01  06 02  07 00 02  02 01 00  02 01 01  03 01 01 00 00 00 08  04 01  05 00  06 01  07 00 01"

abbrev pub serial_cases : List SerialCase
serial_cases =
    record { session = w; leaves = of 9 2 ∷ of 0 0 ∷ []; holds = of 9 2 ∷ of 0 0 ∷ []; reads = shown 0 0 0 ∷ shown 1 0 7 ∷ [] }
    -- by first place sheet 1 would be left with 5, and save 1 would be shown 0 there
    ∷ record { session = by_last_place; leaves = of 1 1 ∷ of 8 2 ∷ []; holds = of 1 1 ∷ of 8 2 ∷ []; reads = shown 1 0 1 ∷ shown 1 1 5 ∷ shown 2 1 0 ∷ [] }
    -- save 0 is committed, and carried out at node 0 alone
    ∷ record { session = both_written "04" ++ "07 00 00"; leaves = of 4 1 ∷ of 5 1 ∷ []; holds = of 4 1 ∷ of 0 0 ∷ []; reads = shown 0 0 0 ∷ shown 0 1 0 ∷ [] }
    -- it stores the 0 that is there at sheet 0: the WCT stays, in the serial run too
    ∷ record { session = both_written "00" ++ "07 00 00  07 01 00"; leaves = of 0 0 ∷ of 5 1 ∷ []; holds = of 0 0 ∷ of 5 1 ∷ []; reads = shown 0 0 0 ∷ shown 0 1 0 ∷ [] }
    ∷ []
