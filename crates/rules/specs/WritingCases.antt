-- Cases of request 2: lists and sessions, with what a call answers and leaves in the room lent. proofs/WritingCases.antt proves the whole table.
use Rattle.std.specs.Prelude.{ℕ, List, [], ◌∷◌, length, replicate}
use Prim.Native.String.{String}
use Rattle.rules.specs.Cases.{hex}
use Rattle.rules.specs.Writing.{Heading, Outcome, wrote, listed, refuse_with, at}

-- every element of a room before the call
abbrev pub unset : ℕ
unset = 170

-- ---- Writing

pub record Write : Type 0 where
  pub heading : Heading
  pub words : List ℕ
  pub room : ℕ  -- bytes
  pub outcome : Outcome
  pub bytes : String

abbrev heading : (nodes sheets : ℕ) → List ℕ → Heading
heading n m o = record { nodes = n; sheets = m; owners = o }

-- one node, one sheet
abbrev fresh : Heading
fresh = heading 1 1 (0 ∷ [])

abbrev writes : Heading → List ℕ → ℕ → String → Write
writes g ws room b = record { heading = g; words = ws; room = room; outcome = wrote (length (hex b)); bytes = b }

abbrev refuses : Heading → List ℕ → ℕ → (place number : ℕ) → Write
refuses g ws room p n = record { heading = g; words = ws; room = room; outcome = refuse_with (at p n); bytes = "" }

-- each command once
abbrev each : List ℕ
each =
    1 ∷ 0 ∷ 0 ∷ 0 ∷ 2 ∷ 0 ∷ 1 ∷ 0 ∷ 3 ∷ 0 ∷ 1 ∷ 7 ∷ 4 ∷ 0 ∷ 0 ∷ 0 ∷ 5 ∷ 1 ∷ 0 ∷ 0 ∷ 6 ∷ 0 ∷ 0 ∷ 0 ∷ 7 ∷ 1 ∷ 0 ∷ 0 ∷ 8 ∷ 0 ∷ 0 ∷ 0 ∷ []

abbrev each_bytes : String
each_bytes = "02 02 00 01  01 00  02 00 01  03 00 01 00 00 00 07  04 00  05 01  06 00  07 01 00  08 00"

abbrev pub written : List Write
written =
    writes fresh [] 16384 "01 01 00"
    ∷ writes fresh [] 3 "01 01 00"
    ∷ writes (heading 2 2 (0 ∷ 1 ∷ [])) each 99 each_bytes
    -- the largest operands; a content's most significant byte first
    ∷ writes fresh (3 ∷ 31 ∷ 0 ∷ 4294967295 ∷ []) 10 "01 01 00  03 1F 00 FF FF FF FF"
    ∷ writes fresh (3 ∷ 0 ∷ 0 ∷ 16909060 ∷ []) 10 "01 01 00  03 00 00 01 02 03 04"
    -- what the engine would refuse
    ∷ writes fresh (6 ∷ 9 ∷ 0 ∷ 0 ∷ 6 ∷ 9 ∷ 0 ∷ 0 ∷ []) 99 "01 01 00  06 09  06 09"
    -- 1: the counts, an owner too few, one too many, one that is no node; then a step's refusal does not count
    ∷ refuses (heading 0 1 (0 ∷ [])) [] 0 0 1
    ∷ refuses (heading 9 1 (0 ∷ [])) [] 99 0 1
    ∷ refuses (heading 1 0 []) [] 99 0 1
    ∷ refuses (heading 1 65 (replicate 65 0)) [] 99 0 1
    ∷ refuses (heading 1 1 []) [] 99 0 1
    ∷ refuses (heading 1 1 (0 ∷ 0 ∷ [])) [] 99 0 1
    ∷ refuses (heading 1 1 (1 ∷ [])) (255 ∷ 0 ∷ 0 ∷ 0 ∷ []) 99 0 1
    -- 2 and 4, at the first step that earns one
    ∷ refuses fresh (1 ∷ 0 ∷ 0 ∷ 0 ∷ 9 ∷ 0 ∷ 0 ∷ 0 ∷ []) 99 1 2
    ∷ refuses fresh (0 ∷ 0 ∷ 0 ∷ 0 ∷ []) 0 0 2
    ∷ refuses fresh (1 ∷ 32 ∷ 0 ∷ 0 ∷ 255 ∷ 0 ∷ 0 ∷ 0 ∷ []) 0 0 4
    ∷ refuses fresh (2 ∷ 0 ∷ 1 ∷ 0 ∷ []) 99 0 4
    ∷ refuses fresh (5 ∷ 1 ∷ 0 ∷ 0 ∷ []) 99 0 4
    ∷ refuses fresh (7 ∷ 0 ∷ 32 ∷ 0 ∷ []) 99 0 4
    -- a number that BEGIN has no operand for; a step cut short
    ∷ refuses fresh (1 ∷ 0 ∷ 1 ∷ 0 ∷ []) 99 0 4
    ∷ refuses fresh (1 ∷ 0 ∷ 0 ∷ 0 ∷ 1 ∷ 0 ∷ []) 99 1 4
    ∷ refuses fresh (9 ∷ []) 99 0 2
    -- 15, last
    ∷ refuses fresh [] 2 3 15
    ∷ refuses fresh (1 ∷ 31 ∷ 0 ∷ 0 ∷ []) 4 5 15
    ∷ []

-- ---- Reading

pub record Read : Type 0 where
  pub session : String
  pub room : ℕ  -- steps
  pub outcome : Outcome
  pub words : List ℕ

abbrev reads : String → ℕ → (nodes sheets count : ℕ) → List ℕ → Read
reads b room n m q ws = record { session = b; room = room; outcome = listed n m q; words = ws }

abbrev refuse : String → ℕ → (place number : ℕ) → Read
refuse b room p n = record { session = b; room = room; outcome = refuse_with (at p n); words = [] }

-- the engine stops at offset 3: save 0 never began
abbrev past_a_stop : String
past_a_stop = "01 01 00  04 00  05 00  02 03 00"

abbrev pub read : List Read
read =
    reads "01 01 00" 0 1 1 0 []
    ∷ reads each_bytes 8 2 2 8 each
    ∷ reads each_bytes 9 2 2 8 each
    ∷ reads past_a_stop 3 1 1 3 (4 ∷ 0 ∷ 0 ∷ 0 ∷ 5 ∷ 0 ∷ 0 ∷ 0 ∷ 2 ∷ 3 ∷ 0 ∷ 0 ∷ [])
    ∷ refuse "00 01 00" 9 0 1
    -- 2, 3 and 4 behind a stop, whichever comes first, also where there is no room
    ∷ refuse "01 01 00  04 00  05 00  99" 9 7 2
    ∷ refuse "01 01 00  04 00  05 00  02 00" 0 7 3
    ∷ refuse "01 01 00  04 00  05 00  01 20  99" 9 7 4
    ∷ refuse "01 01 00  04 00  07 00 20" 0 5 4
    -- 15, last
    ∷ refuse past_a_stop 2 3 15
    ∷ []
