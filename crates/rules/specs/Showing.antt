-- The state after a session's accepted commands as text, for a host that draws it: the report's lines, then what no report shows. Lines are
-- written as the report's are.
use Rattle.std.specs.Prelude.{ℕ, zero, suc, ◌≡◌, Bool, true, false, ◌&&◌, ◌||◌, cond, List, [], ◌∷◌, ◌++◌, length, eqb, ltb}
use Prim.Native.Char.{code}
use Rattle.rules.specs.Sizes.{max_saves}
use Rattle.rules.specs.Bytes.{opens}
use Rattle.rules.specs.State.{Sheet, Phase, unused, first, submitted, second, committed, dropped, Mark, absent, copied, written, Claim, unclaimed, shared, exclusive, State, is_unused, is_second, has_copy, claims, is_x, wide, at, is_last}
use Rattle.rules.specs.Steps.{before, empty, x_on, granted, behind}
use Rattle.rules.specs.Calls.{session_run}
use Rattle.rules.specs.Report.{field, line_end, state_lines}
use Rattle.rules.specs.Writing as lists

-- ---- Parts of a text

-- the texts of the numbers below n, in rising order
unfoldable pub rising : (ℕ → List ℕ) → (n : ℕ) → List ℕ
rising f zero = []
rising f (suc n) = rising f n ++ f n

-- the texts of the numbers of a list
unfoldable pub each : (ℕ → List ℕ) → List ℕ → List ℕ
each f [] = []
each f (u ∷ us) = f u ++ each f us

-- a blank and a letter
unfoldable pub lettered : ℕ → List ℕ
lettered c = code " " ∷ c ∷ []

-- the letter, or "-" for none
abbrev pub letter_if : Bool → ℕ → ℕ
letter_if b c = cond b c (code "-")

-- how lines begin: a letter and two fields
unfoldable pub opening : (letter a b : ℕ) → List ℕ
opening letter a b = letter ∷ (field a ++ field b)

-- ---- S t p r f w q, one per save that has begun

-- F first run, S submitted, L a later run, C committed, D dropped
abbrev pub phase_letter : Phase → ℕ
phase_letter unused = code "-"
phase_letter first = code "F"
phase_letter submitted = code "S"
phase_letter second = code "L"
phase_letter committed = code "C"
phase_letter dropped = code "D"

-- the last place of save t is one of the order's
abbrev pub has_place : State → ℕ → Bool
has_place s t = ltb (s.place t) (length s.order) && eqb (at s.order (s.place t)) t

-- the last place, or "-" for none
abbrev pub place_field : Bool → ℕ → List ℕ
place_field p q = cond p (field q) (lettered (code "-"))

-- save t, its phase, runs entered
unfoldable pub save_head : (t : ℕ) → Phase → (runs : ℕ) → List ℕ
save_head t p r = code "S" ∷ (field t ++ lettered (phase_letter p) ++ field r)

-- F where it is marked failed, W where its later run is wide
abbrev pub failed_letter : Bool → ℕ
failed_letter f = letter_if f (code "F")

abbrev pub wide_letter : Bool → ℕ
wide_letter w = letter_if w (code "W")

unfoldable pub save_marks : (failed wide : Bool) → List ℕ
save_marks f w = lettered (failed_letter f) ++ lettered (wide_letter w)

-- then its last place, counted from 0
unfoldable pub save_line : State → ℕ → List ℕ
save_line s t =
    save_head t (s.phase t) (s.runs t) ++ save_marks (s.failed t) (is_second (s.phase t) && wide s t) ++ place_field (has_place s t) (s.place t) ++ line_end ∷ []

abbrev pub save_text : State → ℕ → List ℕ
save_text s t = cond (is_unused (s.phase t)) [] (save_line s t)

-- ---- L q t x, one per place of the order

-- place q, counted from 0, its save; L where it is the save's last place, F where it is a former one
abbrev pub last_letter : Bool → ℕ
last_letter l = cond l (code "L") (code "F")

unfoldable pub order_line_of : (q t : ℕ) (last : Bool) → List ℕ
order_line_of q t l = opening (code "L") q t ++ lettered (last_letter l) ++ line_end ∷ []

abbrev pub order_line : State → ℕ → List ℕ
order_line s q = order_line_of q (at s.order q) (is_last s.order s.place q)

-- ---- N n q, one per node

-- node n has taken q places
unfoldable pub node_line_of : (n q : ℕ) → List ℕ
node_line_of n q = opening (code "N") n q ++ line_end ∷ []

abbrev pub node_line : State → ℕ → List ℕ
node_line s n = node_line_of n (s.taken n)

-- ---- C t k c m, with v w b where there is a copy: one per save and sheet that the save claims or has a copy of

abbrev pub claim_letter : Claim → ℕ
claim_letter unclaimed = code "-"
claim_letter shared = code "S"
claim_letter exclusive = code "X"

-- R read, W also written
abbrev pub mark_letter : Mark → ℕ
mark_letter absent = code "-"
mark_letter copied = code "R"
mark_letter written = code "W"

-- save t, sheet k, the claim, the copy
unfoldable pub holding_head : (t k : ℕ) → Claim → Mark → List ℕ
holding_head t k c x = opening (code "C") t k ++ lettered (claim_letter c) ++ lettered (mark_letter x)

abbrev pub behind_letter : Bool → ℕ
behind_letter b = letter_if b (code "B")

-- the copy: its content, the WCT seen; B where this is behind the sheet's
unfoldable pub copy_fields : Sheet → (behind : Bool) → List ℕ
copy_fields c b = field c.content ++ field c.wct ++ lettered (behind_letter b)

abbrev pub copy_text : State → (t k : ℕ) → List ℕ
copy_text s t k = cond (has_copy (s.mark t k)) (copy_fields (s.copy t k) (behind s t k)) []

unfoldable pub holding_line : State → (t k : ℕ) → List ℕ
holding_line s t k = holding_head t k (s.claim t k) (s.mark t k) ++ copy_text s t k ++ line_end ∷ []

abbrev pub holding_text : State → (t k : ℕ) → List ℕ
holding_text s t k = cond (claims (s.claim t k) || has_copy (s.mark t k)) (holding_line s t k) []

-- ---- Q k t c g, one per entry of a queue, with the saves that it waits for

-- entry u stands in the way of one behind it with claim c: any does of an X, an X does of an S
abbrev pub in_way : Claim → (x : ℕ → Bool) → ℕ → Bool
in_way c x u = is_x c || x u

-- those of a list that do
unfoldable pub ways : Claim → (x : ℕ → Bool) → List ℕ → List ℕ
ways c x [] = []
ways c x (u ∷ us) = cond (in_way c x u) (u ∷ ways c x us) (ways c x us)

-- the entries that save t's entry at sheet k waits for, from the front
abbrev pub waits_for : State → (t k : ℕ) → List ℕ
waits_for s t k = ways (s.claim t k) (x_on s.claim k) (before t (s.queue k))

abbrev pub granted_letter : Bool → ℕ
granted_letter g = cond g (code "G") (code "W")

-- G granted; W waiting, with the saves that it waits for
unfoldable pub grant_text : Bool → List ℕ → List ℕ
grant_text g us = lettered (granted_letter g) ++ cond g [] (each field us)

abbrev pub granted_text : State → (t k : ℕ) → List ℕ
granted_text s t k = grant_text (granted s t k) (waits_for s t k)

-- an entry is granted exactly where it waits for none (proofs/Showing.antt)
abbrev pub GrantedAlone : Type 0
GrantedAlone = (s : State) (t k : ℕ) → claims (s.claim t k) ≡ true → granted s t k ≡ empty (waits_for s t k)

-- sheet k, save t, S or X
unfoldable pub entry_head : (k t : ℕ) → Claim → List ℕ
entry_head k t c = opening (code "Q") k t ++ lettered (claim_letter c)

unfoldable pub entry_line : State → (k t : ℕ) → List ℕ
entry_line s k t = entry_head k t (s.claim t k) ++ granted_text s t k ++ line_end ∷ []

-- sheet k's queue, from its front
abbrev pub queue_text : State → ℕ → List ℕ
queue_text s k = each (entry_line s k) (s.queue k)

-- ---- The text

unfoldable pub save_lines : State → List ℕ
save_lines s = rising (save_text s) max_saves

unfoldable pub order_lines : State → List ℕ
order_lines s = rising (order_line s) (length s.order)

unfoldable pub node_lines : State → List ℕ
node_lines s = rising (node_line s) s.header.nodes

unfoldable pub holding_lines : State → List ℕ
holding_lines s = rising (λ t. rising (holding_text s t) s.header.sheets) max_saves

unfoldable pub queue_lines : State → List ℕ
queue_lines s = rising (queue_text s) s.header.sheets

-- the report's P, O and T lines; the saves, the order, the nodes, claims and own copies, the queues
unfoldable pub state_text : State → List ℕ
state_text s = state_lines s ++ save_lines s ++ order_lines s ++ node_lines s ++ holding_lines s ++ queue_lines s

-- ---- The call: how many bytes were written, or the refusal, and the room after it

-- 1, then 15, which says how many bytes are needed; nothing is written
abbrev pub state_if : (opens : Bool) → (session room : List ℕ) → lists.Call
state_if true b room =
    lists.put (length (state_text (session_run b).state)) (lists.wrote (length (state_text (session_run b).state))) (state_text (session_run b).state) room
state_if false b room = record { outcome = lists.refuse_with (lists.at 0 1); room = room }

unfoldable pub state_call : (session room : List ℕ) → lists.Call
state_call b room = state_if (opens b) b room
