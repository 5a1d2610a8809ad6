-- "A session's bytes": the header, the table of commands, and the commands that stand in the bytes after the header.
use Rattle.std.specs.Prelude.{ℕ, zero, suc, ◌+◌, ◌*◌, Bool, ◌&&◌, cond, length, get_or, take, drop, eqb, leb, ltb}
use mathlib.Core.List.{List, [], ◌∷◌, foldl}
use Rattle.std.proofs.Math.Option.{Option, none, some}
use Rattle.rules.specs.Table.{all}
use Rattle.rules.specs.Sizes.{max_nodes, max_sheets, max_saves, max_session}

-- ---- The header

-- "node count N, sheet count M, then M bytes, each the owning node of sheet 0, 1 and so on"
pub record Header : Type 0 where
  pub nodes : ℕ  -- N
  pub sheets : ℕ  -- M
  pub owner : ℕ → ℕ  -- of each sheet

abbrev pub byte : List ℕ → ℕ → ℕ
byte b i = get_or b i 0

abbrev pub header : List ℕ → Header
header b = record { nodes = byte b 0; sheets = byte b 1; owner = byte (take (byte b 1) (drop 2 b)) }

abbrev pub header_size : List ℕ → ℕ
header_size b = 2 + byte b 1

-- N is 1 to 8, M 1 to 64, each owner below N
abbrev pub in_range : Header → Bool
in_range h =
    (leb 1 h.nodes && leb h.nodes max_nodes) && (leb 1 h.sheets && leb h.sheets max_sheets) && all h.sheets (λ k. ltb (h.owner k) h.nodes)

-- where this fails the session earns refusal 1: over 16,384 bytes, or the header short or out of range
abbrev pub opens : List ℕ → Bool
opens b = leb (length b) max_session && leb (header_size b) (length b) && in_range (header b)

-- ---- The commands

-- t save, k sheet, n node, v content
pub data Command : Type 0 where
  Begin : (t : ℕ) → Command
  Read : (t k : ℕ) → Command
  Write : (t k v : ℕ) → Command
  Submit : (t : ℕ) → Command
  Take : (n : ℕ) → Command
  Decide : (t : ℕ) → Command
  Apply : (n t : ℕ) → Command
  GiveUp : (t : ℕ) → Command

pub data Operand : Type 0 where
  save sheet node content : Operand

-- bytes
abbrev pub width : Operand → ℕ
width save = 1
width sheet = 1
width node = 1
width content = 4

-- what 4 asks of an operand, where it is run, written or read: that it is below this. A content has no limit but its bytes'.
abbrev pub limit : (nodes sheets : ℕ) → Operand → ℕ
limit n m save = max_saves
limit n m sheet = m
limit n m node = n
limit n m content = 4294967296

-- one line of the table of commands
pub record Form : Type 0 where
  pub number : ℕ  -- the command byte
  pub operands : List Operand
  pub command : List ℕ → Command  -- given the operands' values

abbrev arg : List ℕ → ℕ → ℕ
arg a i = get_or a i 0

-- the table of commands
abbrev pub commands : List Form
commands =
    record { number = 1; operands = save ∷ []; command = λ a. Begin (arg a 0) }
    ∷ record { number = 2; operands = save ∷ sheet ∷ []; command = λ a. Read (arg a 0) (arg a 1) }
    ∷ record { number = 3; operands = save ∷ sheet ∷ content ∷ []; command = λ a. Write (arg a 0) (arg a 1) (arg a 2) }
    ∷ record { number = 4; operands = save ∷ []; command = λ a. Submit (arg a 0) }
    ∷ record { number = 5; operands = node ∷ []; command = λ a. Take (arg a 0) }
    ∷ record { number = 6; operands = save ∷ []; command = λ a. Decide (arg a 0) }
    ∷ record { number = 7; operands = node ∷ save ∷ []; command = λ a. Apply (arg a 0) (arg a 1) }
    ∷ record { number = 8; operands = save ∷ []; command = λ a. GiveUp (arg a 0) }
    ∷ []

abbrev pub form_of : ℕ → List Form → Option Form
form_of b [] = none
form_of b (f ∷ fs) = cond (eqb f.number b) (some f) (form_of b fs)

abbrev pub widths : List Operand → ℕ
widths [] = 0
widths (o ∷ os) = width o + widths os

-- most significant byte first
abbrev pub big_endian : List ℕ → ℕ
big_endian bs = foldl (λ a b. a * 256 + b) 0 bs

abbrev pub values : List Operand → List ℕ → List ℕ
values [] bs = []
values (o ∷ os) bs = big_endian (take (width o) bs) ∷ values os (drop (width o) bs)

-- ---- The commands in the rest of a session

-- what a command byte and the bytes after it hold
pub data Front : Type 0 where
  unknown : Front
  cut : Front
  whole : Command → (operand_bytes : ℕ) → Front

abbrev pub front_by : Option Form → List ℕ → Front
front_by none bs = unknown
front_by (some f) bs =
    cond (ltb (length bs) (widths f.operands)) cut (whole (f.command (values f.operands bs)) (widths f.operands))

abbrev pub front : ℕ → List ℕ → Front
front b bs = front_by (form_of b commands) bs

-- a command with the offset of its command byte and the number of its bytes
pub record Step : Type 0 where
  pub offset : ℕ
  pub size : ℕ
  pub command : Command

-- where a session stops: at its end, or at a refusal, with its offset, its number and how many bytes from the offset on are shown
pub data Stop : Type 0 where
  ended : Stop
  stopped : (offset number shown : ℕ) → Stop

pub record Reading : Type 0 where
  pub steps : List Step
  pub stop : Stop

abbrev pub more : Step → Reading → Reading
more s r = record { steps = s ∷ r.steps; stop = r.stop }

-- at offset p with `rest` bytes behind the command byte; `on` reads on behind the operands
abbrev pub read_front : Front → (p rest : ℕ) → (ℕ → Reading) → Reading
read_front unknown p rest on = record { steps = []; stop = stopped p 2 1 }
read_front cut p rest on = record { steps = []; stop = stopped p 3 (suc rest) }
read_front (whole c w) p rest on = more (record { offset = p; size = suc w; command = c }) (on w)

-- the bytes from offset p on, of which the first `operands` belong to the command before
unfoldable pub read_from : (operands p : ℕ) → List ℕ → Reading
read_from n p [] = record { steps = []; stop = ended }
read_from (suc n) p (b ∷ bs) = read_from n (suc p) bs
read_from zero p (b ∷ bs) = read_front (front b bs) p (length bs) (λ w. read_from w (suc p) bs)

abbrev pub reading : List ℕ → Reading
reading b = read_from 0 (header_size b) (drop (header_size b) b)
