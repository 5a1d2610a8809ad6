-- Request 2, "Writing a session": a header and a list of steps as bytes, and a session's bytes as a header and all its steps.
use Rattle.std.specs.Prelude.{ℕ, zero, suc, ◌-◌, ◌*◌, ◌/◌, ◌%◌, ◌^◌, ◌≤◌, ◌<◌, ◌≡◌, Bool, true, false, ◌&&◌, cond, List, [], ◌∷◌, ◌++◌, map, length, get_or, take, drop, replicate, eqb, leb, ltb}
use Rattle.std.proofs.Math.Option.{Option, none, some}
use Rattle.rules.specs.Sizes.{max_session, max_steps}
use Rattle.rules.specs.Bytes.{Header, byte, header, header_size, in_range, opens, Operand, width, limit, Command, Begin, Read, Write, Submit, Take, Decide, Apply, GiveUp, Form, commands, form_of, widths, values}
use Rattle.rules.specs.Steps.{Checked, pass, refuse}
use Rattle.rules.specs.Demand3.{session_commands}
use Rattle.rules.specs.Calls.{Part, part_of}

-- ---- What is handed over

-- a header: N, M and the owners
pub record Heading : Type 0 where
  pub nodes : ℕ
  pub sheets : ℕ
  pub owners : List ℕ

abbrev pub header_of : Heading → Header
header_of g = record { nodes = g.nodes; sheets = g.sheets; owner = byte g.owners }

-- A step (document 02's term) by itself: a command number with its operands as numbers, in the order of the table of commands. There are
-- three of them for every command; those that it does not have are 0.
pub record Instruction : Type 0 where
  pub number : ℕ
  pub operands : List ℕ

abbrev pub slots : ℕ
slots = 3

-- ---- Refusals

-- 1 of a header has place 0; 2 and 4 have the step's place in the list, or the offset of its command byte; 1 of a total has the number
-- of steps; 15 has the room that is needed
pub record Refusal : Type 0 where
  pub place : ℕ
  pub number : ℕ

abbrev pub at : (place number : ℕ) → Refusal
at p n = record { place = p; number = n }

abbrev pub unless : Bool → Refusal → Option Refusal
unless true r = none
unless false r = some r

-- the first refusal of several tests
abbrev pub first_of : Option Refusal → Option Refusal → Option Refusal
first_of none r = r
first_of (some e) r = some e

-- "M owners", and a header in range
abbrev pub heading_fits : Heading → Bool
heading_fits g = eqb (length g.owners) g.sheets && in_range (header_of g)

abbrev pub zeros : List ℕ → Bool
zeros [] = true
zeros (v ∷ vs) = eqb v 0 && zeros vs

-- each operand is below its limit, and the numbers behind the last are 0
abbrev pub below_limits : (nodes sheets : ℕ) → List Operand → List ℕ → Bool
below_limits n m [] vs = zeros vs
below_limits n m (o ∷ os) vs = ltb (get_or vs 0 0) (limit n m o) && below_limits n m os (drop 1 vs)

abbrev pub operands_fit : (nodes sheets : ℕ) → List Operand → List ℕ → Bool
operands_fit n m os vs = eqb (length vs) slots && below_limits n m os vs

-- a command number's line in the table of commands
unfoldable pub form : ℕ → Option Form
form c = form_of c commands

-- "an unknown command gives 2 and a bad operand 4"
abbrev pub check_by : (nodes sheets : ℕ) → Option Form → List ℕ → Checked
check_by n m none vs = refuse 2
check_by n m (some f) vs = cond (operands_fit n m f.operands vs) pass (refuse 4)

abbrev pub check_step : (nodes sheets : ℕ) → Instruction → Checked
check_step n m i = check_by n m (form i.number) i.operands

abbrev pub refusal_at : (place : ℕ) → Checked → Option Refusal
refusal_at p pass = none
refusal_at p (refuse n) = some (at p n)

-- of the steps from place p on
unfoldable pub steps_refusal : (nodes sheets p : ℕ) → List Instruction → Option Refusal
steps_refusal n m p [] = none
steps_refusal n m p (i ∷ is) = first_of (refusal_at p (check_step n m i)) (steps_refusal n m (suc p) is)

-- ---- Writing

-- a number in n bytes, most significant first
unfoldable pub in_bytes : (n v : ℕ) → List ℕ
in_bytes zero v = []
in_bytes (suc n) v = v / 256 ^ n % 256 ∷ in_bytes n v

unfoldable pub operand_bytes : List Operand → List ℕ → List ℕ
operand_bytes [] vs = []
operand_bytes (o ∷ os) vs = in_bytes (width o) (get_or vs 0 0) ++ operand_bytes os (drop 1 vs)

abbrev pub operands_in : Option Form → List Operand
operands_in none = []
operands_in (some f) = f.operands

abbrev pub step_bytes : Instruction → List ℕ
step_bytes i = i.number ∷ operand_bytes (operands_in (form i.number)) i.operands

unfoldable pub steps_bytes : List Instruction → List ℕ
steps_bytes [] = []
steps_bytes (i ∷ is) = step_bytes i ++ steps_bytes is

-- the bytes of document 01
abbrev pub session_bytes : Heading → List Instruction → List ℕ
session_bytes g is = g.nodes ∷ g.sheets ∷ (g.owners ++ steps_bytes is)

pub data Written : Type 0 where
  bytes : List ℕ → Written
  refused : Refusal → Written

abbrev pub written_unless : Option Refusal → List ℕ → Written
written_unless none b = bytes b
written_unless (some r) b = refused r

-- "A bad header gives 1; then, step by step, an unknown command gives 2 and a bad operand 4; then a total above 16,384 bytes gives 1."
abbrev pub write_refusal : Heading → List Instruction → Option Refusal
write_refusal g is =
    first_of (unless (heading_fits g) (at 0 1)) (first_of (steps_refusal g.nodes g.sheets 0 is) (unless (leb (length (session_bytes g is)) max_session) (at (length is) 1)))

unfoldable pub write : Heading → List Instruction → Written
write g is = written_unless (write_refusal g is) (session_bytes g is)

-- ---- Reading

abbrev pub heading : List ℕ → Heading
heading b = record { nodes = byte b 0; sheets = byte b 1; owners = take (byte b 1) (drop 2 b) }

pub data Listing : Type 0 where
  steps : List Instruction → Listing
  stops : Refusal → Listing

abbrev pub also : Instruction → Listing → Listing
also i (steps is) = steps (i ∷ is)
also i (stops r) = stops r

-- a command byte's operands as numbers, from the bytes behind it
abbrev pub numbers : List Operand → List ℕ → List ℕ
numbers os bs = values os bs ++ replicate (slots - length os) 0

abbrev pub instruction : (number : ℕ) → List Operand → List ℕ → Instruction
instruction c os bs = record { number = c; operands = numbers os bs }

-- the command byte c at offset p with the bytes bs behind it; `on` lists what stands behind its operands
abbrev pub list_operands : (nodes sheets c p : ℕ) → List Operand → List ℕ → (ℕ → Listing) → Listing
list_operands n m c p os bs on =
    cond (ltb (length bs) (widths os)) (stops (at p 3)) (cond (operands_fit n m os (numbers os bs)) (also (instruction c os bs) (on (widths os))) (stops (at p 4)))

abbrev pub list_by : (nodes sheets c p : ℕ) → Option Form → List ℕ → (ℕ → Listing) → Listing
list_by n m c p none bs on = stops (at p 2)
list_by n m c p (some f) bs on = list_operands n m c p f.operands bs on

-- the bytes from offset p on, of which the first `operands` belong to the step before
unfoldable pub list_from : (nodes sheets operands p : ℕ) → List ℕ → Listing
list_from n m w p [] = steps []
list_from n m (suc w) p (b ∷ bs) = list_from n m w (suc p) bs
list_from n m zero p (b ∷ bs) = list_by n m b p (form b) bs (λ w. list_from n m w (suc p) bs)

pub data Listed : Type 0 where
  session : Heading → List Instruction → Listed
  refuses : Refusal → Listed

abbrev pub listed_by : Heading → Listing → Listed
listed_by g (steps is) = session g is
listed_by g (stops r) = refuses r

abbrev pub read_if : (opens : Bool) → List ℕ → Listed
read_if true b = listed_by (heading b) (list_from (byte b 0) (byte b 1) 0 (header_size b) (drop (header_size b) b))
read_if false b = refuses (at 0 1)

-- "Reading gives the header and all steps, or the first of 1 to 4 that the bytes earn."
unfoldable pub read : List ℕ → Listed
read b = read_if (opens b) b

-- ---- The theorems

-- each element is a byte
abbrev pub Bytes : List ℕ → Type 0
Bytes b = (i : ℕ) → byte b i < 256

-- "A session whose bytes, past a stop too, give none of 1 to 4, read and written again, has its old bytes"
abbrev pub ReadWritten : List ℕ → Type 0
ReadWritten b = (g : Heading) (is : List Instruction) → read b ≡ session g is → write g is ≡ bytes b

-- "and a list written and read has its old steps."
abbrev pub WrittenRead : Heading → List Instruction → Type 0
WrittenRead g is = (b : List ℕ) → write g is ≡ bytes b → read b ≡ session g is

-- "Each list has one writing": no other bytes are read as it.
abbrev pub OneWriting : Heading → List Instruction → Type 0
OneWriting g is = (b : List ℕ) → Bytes b → read b ≡ session g is → write g is ≡ bytes b

-- No other list has the same writing.
abbrev pub OneList : Heading → List Instruction → Type 0
OneList g is = (b : List ℕ) (h : Heading) (js : List Instruction) → write g is ≡ bytes b → write h js ≡ bytes b → (h ≡ g) × (js ≡ is)

-- the commands of a list, by the table
abbrev pub with_command : Option Form → List ℕ → List Command → List Command
with_command none vs cs = cs
with_command (some f) vs cs = f.command vs ∷ cs

unfoldable pub commands_of : List Instruction → List Command
commands_of [] = []
commands_of (i ∷ is) = with_command (form i.number) i.operands (commands_of is)

-- The steps that are read are the commands that a run is given.
abbrev pub ReadRun : List ℕ → Type 0
ReadRun b = (g : Heading) (is : List Instruction) → read b ≡ session g is → (header_of g ≡ header b) × (commands_of is ≡ session_commands b)

-- a command as a step by itself
abbrev pub as_step : Command → Instruction
as_step (Begin t) = record { number = 1; operands = t ∷ 0 ∷ 0 ∷ [] }
as_step (Read t k) = record { number = 2; operands = t ∷ k ∷ 0 ∷ [] }
as_step (Write t k v) = record { number = 3; operands = t ∷ k ∷ v ∷ [] }
as_step (Submit t) = record { number = 4; operands = t ∷ 0 ∷ 0 ∷ [] }
as_step (Take n) = record { number = 5; operands = n ∷ 0 ∷ 0 ∷ [] }
as_step (Decide t) = record { number = 6; operands = t ∷ 0 ∷ 0 ∷ [] }
as_step (Apply n t) = record { number = 7; operands = n ∷ t ∷ 0 ∷ [] }
as_step (GiveUp t) = record { number = 8; operands = t ∷ 0 ∷ 0 ∷ [] }

-- By the table it is that command; and what is read are a session's commands so.
abbrev pub AsSteps : Type 0
AsSteps = (cs : List Command) → commands_of (map as_step cs) ≡ cs

abbrev pub ReadSteps : List ℕ → Type 0
ReadSteps b = (g : Heading) (is : List Instruction) → read b ≡ session g is → is ≡ map as_step (session_commands b)

-- No session has more steps.
abbrev pub FewSteps : List ℕ → Type 0
FewSteps b = (g : Heading) (is : List Instruction) → read b ≡ session g is → length is ≤ max_steps

-- ---- The calls: the answer, and the room lent after the call

-- a list of steps in words, four to a step: the number, then the operands; what is left over is a step cut short, which fits no command
abbrev pub instructions : List ℕ → List Instruction
instructions [] = []
instructions (c ∷ []) = record { number = c; operands = [] } ∷ []
instructions (c ∷ x ∷ []) = record { number = c; operands = x ∷ [] } ∷ []
instructions (c ∷ x ∷ y ∷ []) = record { number = c; operands = x ∷ y ∷ [] } ∷ []
instructions (c ∷ x ∷ y ∷ z ∷ ws) = record { number = c; operands = x ∷ y ∷ z ∷ [] } ∷ instructions ws

abbrev pub step_words : ℕ
step_words = suc slots

unfoldable pub words : List Instruction → List ℕ
words [] = []
words (i ∷ is) = i.number ∷ (i.operands ++ words is)

-- how many bytes were written; N, M and how many steps were read; or the refusal
pub data Outcome : Type 0 where
  wrote : (size : ℕ) → Outcome
  listed : (nodes sheets count : ℕ) → Outcome
  refuse_with : Refusal → Outcome

pub record Call : Type 0 where
  pub outcome : Outcome
  pub room : List ℕ

-- new words at the front of a room; what stands beyond them stays. 15, tested last, where it is too short: nothing is written.
abbrev pub put : (needed : ℕ) → Outcome → (new room : List ℕ) → Call
put needed o new room =
    cond (ltb (length room) (length new)) (record { outcome = refuse_with (at needed 15); room = room }) (record { outcome = o; room = new ++ drop (length new) room })

abbrev pub write_into : Written → List ℕ → Call
write_into (bytes b) room = put (length b) (wrote (length b)) b room
write_into (refused r) room = record { outcome = refuse_with r; room = room }

unfoldable pub write_call : Heading → List Instruction → (room : List ℕ) → Call
write_call g is room = write_into (write g is) room

abbrev pub read_into : Listed → List ℕ → Call
read_into (session g is) room = put (length is) (listed g.nodes g.sheets (length is)) (words is) room
read_into (refuses r) room = record { outcome = refuse_with r; room = room }

unfoldable pub read_call : (session room : List ℕ) → Call
read_call b room = read_into (read b) room

-- where the owners stand: behind the two counts; nowhere where the session earns 1
abbrev pub owners_if : (opens : Bool) → List ℕ → Part
owners_if true b = record { from = 2; size = byte b 1 }
owners_if false b = record { from = 0; size = 0 }

unfoldable pub owners_part : List ℕ → Part
owners_part b = owners_if (opens b) b

-- In the terms of the calls: what was written is read as the words that were handed over.
abbrev pub WordsAgain : Heading → List ℕ → Type 0
WordsAgain g ws =
    (b room : List ℕ) → write g (instructions ws) ≡ bytes b → length ws ≤ length room
    → read_call b room ≡ record { outcome = listed g.nodes g.sheets (length (instructions ws)); room = ws ++ drop (length ws) room }

-- The part that is named has the header's owners.
abbrev pub OwnersThere : List ℕ → Type 0
OwnersThere b = opens b ≡ true → part_of (owners_part b) b ≡ (heading b).owners

-- The three calls together, as a host makes them: the counts and the words that reading told, with the owners where they stand, are written as the old bytes,
-- into any room that holds them.
abbrev pub ThreeCalls : List ℕ → Type 0
ThreeCalls b = (words room : List ℕ) (n m q : ℕ) → (read_call b words).outcome ≡ listed n m q → length b ≤ length room
    → write_call (record { nodes = n; sheets = m; owners = part_of (owners_part b) b }) (instructions (take (q * step_words) (read_call b words).room)) room
    ≡ record { outcome = wrote (length b); room = b ++ drop (length b) room }
