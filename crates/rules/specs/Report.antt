-- "The report": its bytes, and the buffer after a call.
use Rattle.std.specs.Prelude.{ℕ, zero, suc, ◌+◌, ◌/◌, ◌%◌, ◌<◌, ◌≡◌, Bool, true, false, cond, List, [], ◌∷◌, ◌++◌, map, length, drop, ltb}
use Prim.Native.Char.{code}
use Rattle.rules.specs.Sizes.{min_buffer}
use Rattle.rules.specs.Bytes.{Stop, ended, stopped, opens}
use Rattle.rules.specs.State.{Sheet, Phase, unused, first, submitted, second, committed, dropped, Tally, State, by_last}
use Rattle.rules.specs.Calls.{session_run, stop}

-- ---- Figures, fields and lines

abbrev figure : ℕ → ℕ
figure n = code "0" + n % 10

-- Decimal figures without leading zeros. A number below `fuel` has at most `fuel` of them.
unfoldable pub figures : (fuel : ℕ) → ℕ → List ℕ
figures zero n = []
figures (suc f) n = let longer = figures f (n / 10) ++ figure n ∷ [] in cond (ltb n 10) (figure n ∷ []) longer

-- "Decimal figures, no leading zeros"
unfoldable pub decimal : ℕ → List ℕ
decimal n = figures (suc n) n

-- "one blank between fields": a blank and a number
unfoldable pub field : ℕ → List ℕ
field n = code " " ∷ decimal n

abbrev pub line_end : ℕ
line_end = 10

-- ---- P t r o, one per last place in the order

-- "The order of places is a list of rows, each with save, runs and outcome."
pub record Row : Type 0 where
  pub save : ℕ
  pub runs : ℕ
  pub outcome : ℕ  -- a letter

-- C committed, D dropped, U neither yet
abbrev pub letter : Phase → ℕ
letter unused = code "U"
letter first = code "U"
letter submitted = code "U"
letter second = code "U"
letter committed = code "C"
letter dropped = code "D"

unfoldable pub rows : State → List Row
rows s = map (λ t. record { save = t; runs = s.runs t; outcome = letter (s.phase t) }) (by_last s.order s.place (length s.order))

unfoldable pub place_line : Row → List ℕ
place_line r = code "P" ∷ (field r.save ++ field r.runs ++ code " " ∷ r.outcome ∷ line_end ∷ [])

unfoldable pub place_lines : List Row → List ℕ
place_lines [] = []
place_lines (r ∷ rs) = place_line r ++ place_lines rs

-- ---- O k v w, one per sheet

unfoldable pub sheet_line : (k v w : ℕ) → List ℕ
sheet_line k v w = code "O" ∷ (field k ++ field v ++ field w ++ line_end ∷ [])

-- of the sheets below m
unfoldable pub sheet_lines : (ℕ → Sheet) → (m : ℕ) → List ℕ
sheet_lines sheet zero = []
sheet_lines sheet (suc k) = sheet_lines sheet k ++ sheet_line k (sheet k).content (sheet k).wct

-- ---- T a f s, and R p c after a refusal

unfoldable pub tally_line : Tally → List ℕ
tally_line a = code "T" ∷ (field a.accepted ++ field a.from_first ++ field a.from_second ++ line_end ∷ [])

unfoldable pub refusal_line : (p c : ℕ) → List ℕ
refusal_line p c = code "R" ∷ (field p ++ field c ++ line_end ∷ [])

unfoldable pub stop_line : Stop → List ℕ
stop_line ended = []
stop_line (stopped p n shown) = refusal_line p n

-- ---- The report

unfoldable pub state_lines : State → List ℕ
state_lines s = place_lines (rows s) ++ sheet_lines s.sheet s.header.sheets ++ tally_line s.tally

-- refusal 1 prints its line alone
abbrev pub report_if : (opens : Bool) → List ℕ → List ℕ
report_if true b = state_lines (session_run b).state ++ stop_line (stop b)
report_if false b = stop_line (stop b)

unfoldable pub report : List ℕ → List ℕ
report b = report_if (opens b) b

-- ---- The call: the report's length and the buffer after it

pub record Filled : Type 0 where
  pub size : ℕ
  pub buffer : List ℕ

-- the text at the front; bytes beyond it stay
abbrev pub in_front : List ℕ → List ℕ → Filled
in_front text buffer = record { size = length text; buffer = text ++ drop (length text) buffer }

-- refusal 12: a buffer under 4,096 bytes; nothing is written, the length is 0
unfoldable pub report_call : (session buffer : List ℕ) → Filled
report_call b buffer = cond (ltb (length buffer) min_buffer) (record { size = 0; buffer = buffer }) (in_front (report b) buffer)

-- No report is empty: length 0 comes back for nothing but 12.
abbrev pub OnlyTwelve : (session buffer : List ℕ) → Type 0
OnlyTwelve b buffer = (report_call b buffer).size ≡ 0 → length buffer < min_buffer
