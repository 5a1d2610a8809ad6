-- "Cases": sessions in hexadecimal, with what a call answers, what is shown, and the report; and APPLYs with their marks. proofs/Cases.antt proves
-- both tables.
use Rattle.std.specs.Prelude.{ℕ, ◌+◌, ◌-◌, ◌*◌, cond, List, [], ◌∷◌, eqb, ltb}
use Prim.Native.Char.{code}
use Prim.Native.String.{String, [] as end, ◌∷◌ as ◌then◌, ◌++◌}
use Rattle.rules.specs.Steps.{x_granted, x_waiting, counter_behind, Rule, cause, valid, invalid, accepted, content_is, took, commits, second_run}
use Rattle.rules.specs.Calls.{Reply, no_command, answers, refusal}

-- ---- Texts as bytes

abbrev pub text : String → List ℕ
text end = []
text (c then s) = code c ∷ text s

abbrev no_blanks : List ℕ → List ℕ
no_blanks [] = []
no_blanks (c ∷ cs) = let rest = no_blanks cs in cond (eqb c (code " ")) rest (c ∷ rest)

-- a hexadecimal figure
abbrev nibble : ℕ → ℕ
nibble c = cond (ltb c (code "A")) (c - code "0") (c - code "A" + 10)

abbrev pairs : List ℕ → List ℕ
pairs [] = []
pairs (a ∷ []) = []
pairs (a ∷ b ∷ cs) = (nibble a * 16 + nibble b) ∷ pairs cs

abbrev pub hex : String → List ℕ
hex s = pairs (no_blanks (text s))

-- ---- The table

pub record Case : Type 0 where
  pub session : String
  pub answer : Reply
  pub shown : String
  pub lines : String

abbrev case : String → Reply → String → String → Case
case s a p l = record { session = s; answer = a; shown = p; lines = l }

-- a TAKE that finds save t invalid at sheet k
abbrev fails : ℕ → ℕ → Rule → Reply
fails t k r = answers (took t (invalid (cause k r)))

-- the fresh session
abbrev fresh : String
fresh = "01 01 00 "

-- W up to offset 36: both saves are taken
abbrev pub w_36 : String
w_36 = "02 02 00 01  01 00  01 01  02 00 00  02 01 00  03 00 00 00 00 00 07  03 01 00 00 00 00 09  04 00  04 01  05 00  05 00  "

-- up to 38: save 0 is decided
abbrev w_38 : String
w_38 = w_36 ++ "06 00  "

-- up to 43: save 0 is carried out, and save 1 in its second run
abbrev w_43 : String
w_43 = w_38 ++ "07 00 00  06 01  "

-- its end, behind the second READ of save 1
abbrev w_end : String
w_end = "03 01 00 00 00 00 09  04 01  07 00 01  "

abbrev pub w : String
w = w_43 ++ "02 01 00  " ++ w_end

-- save 0 reads the sheet, 1 reads and writes it, 2 reads it; all submitted
abbrev three : String
three = fresh ++ "01 00  01 01  01 02  02 00 00  02 01 00  02 02 00  03 01 00 00 00 00 05  04 00  04 01  04 02  "

abbrev pub starred : List Case
starred =
    case w (answers accepted) "" "P 0 1 C\nP 1 2 C\nO 0 9 2\nO 1 0 0\nT 17 1 1\n"
    ∷ case (w_43 ++ "02 01 00") (answers (content_is 7)) "" "P 0 1 C\nP 1 2 U\nO 0 7 1\nO 1 0 0\nT 14 1 0\n"
    ∷ case (w_38 ++ "06 01  " ++ "07 00 00  06 01  02 01 00  " ++ w_end) (refusal 38 10) "06 01" "P 0 1 C\nP 1 1 U\nO 0 0 0\nO 1 0 0\nT 11 1 0\nR 38 10\n"
    ∷ case fresh no_command "" "O 0 0 0\nT 0 0 0\n"
    ∷ case (fresh ++ "01 1F") (answers accepted) "" "O 0 0 0\nT 1 0 0\n"
    ∷ case (fresh ++ "01 20") (refusal 3 4) "01 20" "O 0 0 0\nT 0 0 0\nR 3 4\n"
    -- an empty claim commits
    ∷ case (fresh ++ "01 00  04 00  06 00") (answers commits) "" "P 0 1 C\nO 0 0 0\nT 3 1 0\n"
    -- 0 holds S, 1's X waits, 2 asks for S: it is failed and waits behind 1
    ∷ case (three ++ "05 00  05 00  05 00") (fails 2 0 x_waiting) "" "P 0 1 U\nP 1 1 U\nP 2 1 U\nO 0 0 0\nT 13 0 0\n"
    ∷ case (three ++ "05 00  05 00  05 00  06 02") (refusal 37 10) "06 02" "P 0 1 U\nP 1 1 U\nP 2 1 U\nO 0 0 0\nT 13 0 0\nR 37 10\n"
    -- GIVE UP in the second run, then APPLY; in the first run
    ∷ case (w_43 ++ "08 01  07 00 01") (answers accepted) "" "P 0 1 C\nP 1 2 D\nO 0 7 1\nO 1 0 0\nT 15 1 0\n"
    ∷ case (fresh ++ "01 00  08 00") (answers accepted) "" "O 0 0 0\nT 2 0 0\n"
    -- second-run SUBMIT with no READ
    ∷ case (w_43 ++ "04 01  07 00 01") (answers accepted) "" "P 0 1 C\nP 1 2 C\nO 0 7 1\nO 1 0 0\nT 15 1 1\n"
    ∷ []

-- the examples of the table of refused steps, 1 to 14; those of 4 and 10 are starred cases, above, and 12 is no session's
abbrev pub refusals : List Case
refusals =
    case "00 01 00" (refusal 0 1) "" "R 0 1\n"
    ∷ case (fresh ++ "09") (refusal 3 2) "09" "O 0 0 0\nT 0 0 0\nR 3 2\n"
    ∷ case (fresh ++ "02 00") (refusal 3 3) "02 00" "O 0 0 0\nT 0 0 0\nR 3 3\n"
    -- SUBMIT of a save that is submitted
    ∷ case (fresh ++ "01 00  04 00  04 00") (refusal 7 5) "04 00" "P 0 1 U\nO 0 0 0\nT 2 0 0\nR 7 5\n"
    ∷ case (fresh ++ "01 00 01 01 02 00 00 03 00 00 00 00 00 01 04 00 05 00 02 01 00") (refusal 21 6) "02 01 00" "P 0 1 U\nO 0 0 0\nT 6 0 0\nR 21 6\n"
    ∷ case (fresh ++ "01 00 03 00 00 00 00 00 05") (refusal 5 7) "03 00 00 00 00 00 05" "O 0 0 0\nT 1 0 0\nR 5 7\n"
    -- the example of 8, which is given no more: the READ is accepted, and the WRITE of a sheet without own copy gives 7
    ∷ case (w_43 ++ "02 01 01  " ++ w_end) (refusal 46 7) "03 01 00 00 00 00 09" "P 0 1 C\nP 1 2 U\nO 0 7 1\nO 1 0 0\nT 14 1 0\nR 46 7\n"
    ∷ case (fresh ++ "05 00") (refusal 3 9) "05 00" "O 0 0 0\nT 0 0 0\nR 3 9\n"
    ∷ case (w ++ "07 00 01") (refusal 58 11) "07 00 01" "P 0 1 C\nP 1 2 C\nO 0 9 2\nO 1 0 0\nT 17 1 1\nR 58 11\n"
    ∷ case (fresh ++ "04 00") (refusal 3 13) "04 00" "O 0 0 0\nT 0 0 0\nR 3 13\n"
    -- SUBMIT of a committed save; BEGIN of one that was given up in its first run
    ∷ case (w ++ "04 01") (refusal 58 14) "04 01" "P 0 1 C\nP 1 2 C\nO 0 9 2\nO 1 0 0\nT 17 1 1\nR 58 14\n"
    ∷ case (fresh ++ "01 00  08 00  01 00") (refusal 7 14) "01 00" "O 0 0 0\nT 2 0 0\nR 7 14\n"
    ∷ []

-- the answers on the way through W, and two places where a reading that looks natural goes wrong
abbrev pub others : List Case
others =
    case w_36 (fails 1 0 x_granted) "" "P 0 1 U\nP 1 1 U\nO 0 0 0\nO 1 0 0\nT 10 0 0\n"
    ∷ case w_38 (answers commits) "" "P 0 1 C\nP 1 1 U\nO 0 0 0\nO 1 0 0\nT 11 1 0\n"
    ∷ case w_43 (answers second_run) "" "P 0 1 C\nP 1 2 U\nO 0 7 1\nO 1 0 0\nT 13 1 0\n"
    -- save 1 fails at sheet 0 and still has its entry at sheet 1, behind which save 2's X waits
    ∷ case ("01 02 00 00  01 00  01 01  01 02  02 00 00  03 00 00 00 00 00 01  02 01 00  02 01 01  02 02 01  03 02 01 00 00 00 01  " ++ "04 00  04 01  04 02  05 00  05 00  05 00  06 02") (refusal 48 10) "06 02" "P 0 1 U\nP 1 1 U\nP 2 1 U\nO 0 0 0\nO 1 0 0\nT 15 0 0\nR 48 10\n"
    -- save 0 is committed and not carried out: its X still fails save 1
    ∷ case (fresh ++ "01 00  01 01  02 00 00  02 01 00  03 00 00 00 00 00 01  04 00  04 01  05 00  06 00  05 00") (fails 1 0 x_granted) "" "P 0 1 C\nP 1 1 U\nO 0 0 0\nT 10 1 0\n"
    ∷ []

-- ---- Request 3

-- Two nodes with a sheet each. Save 0 reads both sheets and writes sheet 0, save 1 reads both and writes sheet 1; both are submitted.
abbrev crossed : String
crossed = "02 02 00 01  01 00  01 01  02 00 00  02 00 01  03 00 00 00 00 00 07  02 01 00  02 01 01  03 01 01 00 00 00 09  04 00  04 01  "

-- save 1's second run, from DECIDE to SUBMIT
abbrev run_again : String
run_again = "06 01  02 01 00  02 01 01  03 01 01 00 00 00 09  04 01  "

-- one session in two orders: four swaps of neighbours at two nodes lead from the one to the other
abbrev pub in_one_order : String
in_one_order = crossed ++ "05 00  05 00  05 01  06 00  05 01  07 00 00  07 01 00  " ++ run_again ++ "07 00 01  07 01 01"

abbrev pub in_another : String
in_another = crossed ++ "05 01  05 00  05 00  06 00  07 00 00  05 01  07 01 00  " ++ run_again ++ "07 01 01  07 00 01"

abbrev all_taken : String
all_taken = "P 0 1 U\nP 1 1 U\nO 0 0 0\nO 1 0 0\nT 14 0 0\n"

-- node 0 has taken the only save
abbrev pub one_taken : String
one_taken = "02 02 00 01  01 00  04 00  05 00  "

abbrev pub neighbours : List Case
neighbours =
    case in_one_order (answers accepted) "" "P 0 1 C\nP 1 2 C\nO 0 7 1\nO 1 9 1\nT 24 1 1\n"
    ∷ case in_another (answers accepted) "" "P 0 1 C\nP 1 2 C\nO 0 7 1\nO 1 9 1\nT 24 1 1\n"
    -- node 0 finds save 1 invalid, node 1 finds it valid, whichever is first; the call's last answer is the last step's
    ∷ case (crossed ++ "05 00  05 00  05 01  05 01") (answers (took 1 valid)) "" all_taken
    ∷ case (crossed ++ "05 01  05 01  05 00  05 00") (fails 1 0 x_granted) "" all_taken
    -- a refused neighbour: the same two answers, but the stop has another offset, and what runs before it is counted
    ∷ case (one_taken ++ "05 00  05 01") (refusal 10 9) "05 00" "P 0 1 U\nO 0 0 0\nO 1 0 0\nT 3 0 0\nR 10 9\n"
    ∷ case (one_taken ++ "05 01  05 00") (refusal 12 9) "05 00" "P 0 1 U\nO 0 0 0\nO 1 0 0\nT 4 0 0\nR 12 9\n"
    ∷ []

-- ---- Request 4

-- saves 0 and 1 read the sheet, 0 writes it; both submitted
abbrev pair : String
pair = fresh ++ "01 00  01 01  02 00 00  02 01 00  03 00 00 00 00 00 01  04 00  04 01  "

-- saves 0, 1 and 2 read the sheet, 0 and 1 write it; 0 is carried out, then 1 and 2 are submitted
abbrev overtaken : String
overtaken = fresh ++ "01 00  01 01  01 02  02 00 00  02 01 00  02 02 00  03 00 00 00 00 00 01  03 01 00 00 00 00 02  04 00  05 00  06 00  07 00 00  04 01  04 02  "

-- saves 0 and 3 read the sheet, 0 writes it and is carried out; then 1 reads the sheet, 2 reads and writes it, and 1, 2 and 3 are submitted
abbrev queued_up : String
queued_up = fresh ++ "01 00  01 01  01 02  01 03  02 00 00  02 03 00  03 00 00 00 00 00 01  04 00  05 00  06 00  07 00 00  02 01 00  02 02 00  03 02 00 00 00 00 02  04 01  04 02  04 03  "

-- one node with sheets 0 and 1; save 0 writes 0, save 1 writes 1, save 2 reads both; 0 is carried out, then 1 and 2 are submitted
abbrev two_sheets : String
two_sheets = "01 02 00 00  01 00  01 01  01 02  02 00 00  03 00 00 00 00 00 01  02 01 01  03 01 01 00 00 00 02  02 02 00  02 02 01  04 00  05 00  06 00  07 00 00  04 01  04 02  "

abbrev pub causes : List Case
causes =
    -- the counter alone; an X granted alone is in W-36, and an X waiting alone in the starred cases
    case (pair ++ "05 00  06 00  07 00 00  05 00") (fails 1 0 counter_behind) "" "P 0 1 C\nP 1 1 U\nO 0 1 1\nT 11 1 0\n"
    -- two causes on one sheet: save 1's X is granted, and the counter is behind
    ∷ case (overtaken ++ "05 00  05 00") (fails 2 0 x_granted) "" "P 0 1 C\nP 1 1 U\nP 2 1 U\nO 0 1 1\nT 16 1 0\n"
    -- save 2's X waits behind save 1's S, and the counter is behind
    ∷ case (queued_up ++ "05 00  05 00  05 00") (fails 3 0 x_waiting) "" "P 0 1 C\nP 1 1 U\nP 2 1 U\nP 3 1 U\nO 0 1 1\nT 20 1 0\n"
    -- on two sheets: the counter is behind at sheet 0, and save 1's X is granted at sheet 1
    ∷ case (two_sheets ++ "05 00  05 00") (fails 2 0 counter_behind) "" "P 0 1 C\nP 1 1 U\nP 2 1 U\nO 0 1 1\nO 1 0 0\nT 17 1 0\n"
    -- sheet 0 passes; at sheet 1 save 0's X waits behind save 1's S
    ∷ case ("01 02 00 00  01 00  01 01  01 02  02 00 01  03 00 01 00 00 00 01  02 01 01  02 02 00  02 02 01  04 01  04 00  04 02  05 00  05 00  05 00") (fails 2 1 x_waiting) "" "P 1 1 U\nP 0 1 U\nP 2 1 U\nO 0 0 0\nO 1 0 0\nT 14 0 0\n"
    -- node 0 found save 1 valid; node 1 has save 0's X at sheet 1
    ∷ case ("02 02 00 01  01 00  01 01  02 00 01  03 00 01 00 00 00 01  02 01 00  02 01 01  04 00  04 01  05 00  05 00  05 01  05 01") (fails 1 1 x_granted) "" "P 0 1 U\nP 1 1 U\nO 0 0 0\nO 1 0 0\nT 12 0 0\n"
    ∷ []

-- ---- Request 5

-- the marks of sheets 0 and 1 where node n carries out save t next; two sheets in each session
pub record Marks : Type 0 where
  pub session : String
  pub node : ℕ
  pub save : ℕ
  pub of_0 : ℕ
  pub of_1 : ℕ

abbrev marks : String → (n t of_0 of_1 : ℕ) → Marks
marks s n t a b = record { session = s; node = n; save = t; of_0 = a; of_1 = b }

-- two nodes with a sheet each; save 0 writes v to sheet 0 and 5 to sheet 1, and is committed
abbrev pub both_written : (v : String) → String
both_written v = "02 02 00 01  01 00  02 00 00  03 00 00 00 00 00 " ++ v ++ "  02 00 01  03 00 01 00 00 00 05  04 00  05 00  05 01  06 00  "

abbrev pub applies : List Marks
applies =
    -- save 0 wrote sheet 0, and has no copy of sheet 1
    marks w_38 0 0 1 0
    -- each node's APPLY has 1 at its own sheet alone, and 0 there too where the content, 0, is the one there
    ∷ marks (both_written "04") 0 0 1 0
    ∷ marks (both_written "04") 1 0 0 1
    ∷ marks (both_written "00") 0 0 0 0
    ∷ marks (both_written "00") 1 0 0 1
    -- save 0 has only read sheet 1
    ∷ marks (crossed ++ "05 00  05 01  06 00  ") 0 0 1 0
    ∷ marks (crossed ++ "05 00  05 01  06 00  ") 1 0 0 0
    -- save 1 wrote sheet 0 in its second run, and was given up there
    ∷ marks (w_43 ++ "02 01 00  03 01 00 00 00 00 09  08 01  ") 0 1 0 0
    -- it wrote the sheet in its first run and not in its last, which is committed
    ∷ marks (w_43 ++ "02 01 00  04 01  ") 0 1 0 0
    -- its second run writes the 7 that is there; in the next row, the 0 that its first run read
    ∷ marks (w_43 ++ "02 01 00  03 01 00 00 00 00 07  04 01  ") 0 1 0 0
    ∷ marks (w_43 ++ "02 01 00  03 01 00 00 00 00 00  04 01  ") 0 1 1 0
    ∷ []

-- ---- Request 6

-- save 9 has read the sheet's 0
abbrev reader : String
reader = fresh ++ "01 09  02 09 00  "

-- saves 0 and 1, each from its BEGIN to its APPLY: save 0 writes 1, save 1 writes 0
abbrev away : String
away = "01 00  02 00 00  03 00 00 00 00 00 01  04 00  05 00  06 00  07 00 00  "

abbrev back : String
back = "01 01  02 01 00  03 01 00 00 00 00 00  04 01  05 00  06 01  07 00 01  "

-- saves 0 and 1 have both read 0; save 0 is carried out with 1, and save 1, failed by its X, is in its second run and has read 1
abbrev second_reading : String
second_reading =
    fresh ++ "01 00  01 01  02 00 00  02 01 00  03 00 00 00 00 00 01  03 01 00 00 00 00 02  04 00  04 01  05 00  05 00  06 00  07 00 00  06 01  02 01 00  "

abbrev pub unchanged : List Case
unchanged =
    -- save 1 stores the 0 that is there: save 9's older copy passes
    case (reader ++ back ++ "04 09  05 00  06 09") (answers commits) "" "P 1 1 C\nP 9 1 C\nO 0 0 0\nT 12 2 0\n"
    -- the content goes away and comes back: the WCT rose twice, and save 9's copy fails
    ∷ case (reader ++ away ++ back ++ "04 09  05 00") (fails 9 0 counter_behind) "" "P 0 1 C\nP 1 1 C\nP 9 1 U\nO 0 0 2\nT 18 2 0\n"
    ∷ case (reader ++ away ++ back ++ "04 09  05 00  06 09") (answers second_run) "" "P 0 1 C\nP 1 1 C\nP 9 2 U\nO 0 0 2\nT 19 2 0\n"
    -- an unchanged content is written all the same: save 0's X fails save 1, which then runs again
    ∷ case (fresh ++ "01 00  01 01  02 00 00  02 01 00  03 00 00 00 00 00 00  04 00  04 01  05 00  05 00") (fails 1 0 x_granted) "" "P 0 1 U\nP 1 1 U\nO 0 0 0\nT 9 0 0\n"
    ∷ case (fresh ++ "01 00  01 01  02 00 00  02 01 00  03 00 00 00 00 00 00  04 00  04 01  05 00  05 00  06 00  07 00 00  06 01") (answers second_run) "" "P 0 1 C\nP 1 2 U\nO 0 0 0\nT 12 1 0\n"
    -- the content there counts, not the one that the first run read: the second run stores 1 on 1; in the next row, 0 on 1
    ∷ case (second_reading ++ "03 01 00 00 00 00 01  04 01  07 00 01") (answers accepted) "" "P 0 1 C\nP 1 2 C\nO 0 1 1\nT 17 1 1\n"
    ∷ case (second_reading ++ "03 01 00 00 00 00 00  04 01  07 00 01") (answers accepted) "" "P 0 1 C\nP 1 2 C\nO 0 0 2\nT 17 1 1\n"
    -- the content last written counts: save 2 writes 9, then the 0 that is there
    ∷ case (fresh ++ away ++ back ++ "01 02  02 02 00  03 02 00 00 00 00 09  03 02 00 00 00 00 00  04 02  05 00  06 02  07 00 02") (answers accepted) "" "P 0 1 C\nP 1 1 C\nP 2 1 C\nO 0 0 2\nT 22 3 0\n"
    ∷ []

-- ---- Request 7

-- one node with two sheets; two nodes with one each
abbrev at_one : String
at_one = "01 02 00 00  "

abbrev at_two : String
at_two = "02 02 00 01  "

-- save 1 reads sheet 0 and is submitted behind save 0, which is carried out there with 1: save 1 has failed and is in its second run, S on sheet 0
abbrev later : String
later = "01 00  01 01  02 00 00  03 00 00 00 00 00 01  04 00  02 01 00  04 01  05 00  06 00  07 00 00  05 00  06 01  "

-- it reads sheet 1 too, and is submitted again: its last place is 2, its former one 1
abbrev opened : String
opened = later ++ "02 01 01  04 01  "

-- the same with save 1's X on sheet 0, behind which save 2's S waits
abbrev held_up : String
held_up =
    at_one ++ "01 00  01 01  01 02  02 00 00  03 00 00 00 00 00 01  04 00  02 01 00  03 01 00 00 00 00 02  04 01  02 02 00  04 02  05 00  06 00  07 00 00  05 00  05 00  06 01  "

-- save 2 has written sheet 1 and is submitted behind save 1's first place
abbrev writer : String
writer =
    at_one ++ "01 00  01 01  01 02  02 00 00  03 00 00 00 00 00 01  04 00  02 01 00  04 01  02 02 01  03 02 01 00 00 00 03  04 02  05 00  06 00  07 00 00  05 00  06 01  "

-- save 1 in its second run on the one sheet, S; save 2, behind it, writes or has read it
abbrev behind_it : (save_2 : String) → String
behind_it save_2 = fresh ++ "01 00  01 01  01 02  02 00 00  03 00 00 00 00 00 01  04 00  02 01 00  04 01  " ++ save_2

-- save 1 opens sheet 1, fails there by save 2's X, and opens sheet 2: its places are 1, 3 and 4
abbrev twice : String
twice =
    "02 03 00 00 00  " ++ later ++ "01 02  02 02 01  03 02 01 00 00 00 05  04 02  02 01 01  04 01  05 00  05 00  06 02  07 00 02  06 01  02 01 02  04 01  "

abbrev pub widened : List Case
widened =
    -- wide by a new sheet; node 1 takes save 0 at place 0, passes save 1's former place 1 and finds it valid there
    case (at_two ++ opened) (answers accepted) "" "P 0 1 C\nP 1 2 U\nO 0 1 1\nO 1 0 0\nT 14 1 0\n"
    ∷ case (at_two ++ opened ++ "05 01  05 01") (answers (took 1 valid)) "" "P 0 1 C\nP 1 2 U\nO 0 1 1\nO 1 0 0\nT 16 1 0\n"
    -- the new claim's owners must have taken the last place: one has not; the other has taken the former one only
    ∷ case (at_two ++ opened ++ "05 00  05 01  05 01  06 01") (refusal 47 10) "06 01" "P 0 1 C\nP 1 2 U\nO 0 1 1\nO 1 0 0\nT 17 1 0\nR 47 10\n"
    ∷ case (at_two ++ opened ++ "05 00  06 01") (refusal 43 10) "06 01" "P 0 1 C\nP 1 2 U\nO 0 1 1\nO 1 0 0\nT 15 1 0\nR 43 10\n"
    -- committed by DECIDE, counted under s; its write of the new sheet is stored
    ∷ case (at_two ++ later ++ "02 01 01  03 01 01 00 00 00 04  04 01  05 01  05 01  05 01  05 00  06 01  07 00 01  07 01 01") (answers accepted) "" "P 0 1 C\nP 1 2 C\nO 0 1 1\nO 1 4 1\nT 22 1 1\n"
    -- sheet 0 is in the claim without a copy: its counter is not compared
    ∷ case (at_one ++ opened ++ "05 00  06 01") (answers commits) "" "P 0 1 C\nP 1 2 C\nO 0 1 1\nO 1 0 0\nT 16 1 1\n"
    -- S to X: the SUBMIT does not commit, and the save is submitted
    ∷ case (fresh ++ later ++ "02 01 00  03 01 00 00 00 00 06  04 01  05 00  06 01  07 00 01") (answers accepted) "" "P 0 1 C\nP 1 2 C\nO 0 6 2\nT 18 1 1\n"
    ∷ case (fresh ++ later ++ "02 01 00  03 01 00 00 00 00 06  04 01  07 00 01") (refusal 47 5) "07 00 01" "P 0 1 C\nP 1 2 U\nO 0 1 1\nT 15 1 0\nR 47 5\n"
    -- within the claim: it commits; without any READ too
    ∷ case (at_one ++ later ++ "02 01 00  04 01  07 00 01") (answers accepted) "" "P 0 1 C\nP 1 2 C\nO 0 1 1\nO 1 0 0\nT 15 1 1\n"
    ∷ case (at_one ++ later ++ "04 01  04 01") (refusal 38 14) "04 01" "P 0 1 C\nP 1 2 C\nO 0 1 1\nO 1 0 0\nT 13 1 1\nR 38 14\n"
    -- a WRITE still needs the run's own copy; a refused one makes nothing wide
    ∷ case (at_one ++ later ++ "03 01 01 00 00 00 03") (refusal 36 7) "03 01 01 00 00 00 03" "P 0 1 C\nP 1 2 U\nO 0 1 1\nO 1 0 0\nT 12 1 0\nR 36 7\n"
    -- submitted again: no READ until it is decided
    ∷ case (at_one ++ opened ++ "02 01 00") (refusal 41 5) "02 01 00" "P 0 1 C\nP 1 2 U\nO 0 1 1\nO 1 0 0\nT 14 1 0\nR 41 5\n"
    -- given up while wide: the claim is the old one, and its entries stay until APPLY
    ∷ case (at_one ++ later ++ "02 01 01  03 01 01 00 00 00 08  08 01  07 00 01") (answers accepted) "" "P 0 1 C\nP 1 2 D\nO 0 1 1\nO 1 0 0\nT 16 1 0\n"
    ∷ case (held_up ++ "02 01 01  03 01 01 00 00 00 08  08 01  06 02") (refusal 64 10) "06 02" "P 0 1 C\nP 1 2 D\nP 2 1 U\nO 0 1 1\nO 1 0 0\nT 20 1 0\nR 64 10\n"
    -- submitted while wide: its entries are gone, and save 2 is first
    ∷ case (held_up ++ "02 01 01  04 01  06 02  02 02 00  04 02  07 00 02  05 00  06 01") (answers commits) "" "P 0 1 C\nP 2 2 C\nP 1 2 C\nO 0 1 1\nO 1 0 0\nT 25 1 2\n"
    -- a READ outside the claim passes save 2's X, and that X fails the new place
    ∷ case (writer ++ "05 00  02 01 01") (answers (content_is 0)) "" "P 0 1 C\nP 1 2 U\nP 2 1 U\nO 0 1 1\nO 1 0 0\nT 18 1 0\n"
    ∷ case (writer ++ "05 00  02 01 01  04 01  05 00") (fails 1 1 x_granted) "" "P 0 1 C\nP 2 1 U\nP 1 2 U\nO 0 1 1\nO 1 0 0\nT 20 1 0\n"
    -- it fails again, and runs again under the larger claim: a third run, not wide
    ∷ case (writer ++ "05 00  02 01 01  04 01  05 00  06 02  07 00 02  06 01  02 01 01  02 01 00  04 01  07 00 01") (answers accepted) "" "P 0 1 C\nP 2 1 C\nP 1 3 C\nO 0 1 1\nO 1 3 1\nT 27 2 1\n"
    -- save 2 is carried out in between: the counter is behind at the new sheet
    ∷ case (writer ++ "02 01 01  04 01  05 00  06 02  07 00 02  05 00") (fails 1 1 counter_behind) "" "P 0 1 C\nP 2 1 C\nP 1 2 U\nO 0 1 1\nO 1 3 1\nT 22 2 0\n"
    -- an X in the queue of a sheet that is claimed without a copy fails it
    ∷ case (at_one ++ "01 00  01 01  01 02  02 00 00  03 00 00 00 00 00 01  04 00  02 01 00  04 01  05 00  06 00  07 00 00  02 02 00  03 02 00 00 00 00 05  04 02  05 00  06 01  05 00  02 01 01  04 01  05 00") (fails 1 0 x_granted) "" "P 0 1 C\nP 2 1 U\nP 1 2 U\nO 0 1 1\nO 1 0 0\nT 20 1 0\n"
    -- X where the claim was X: save 1 wrote sheet 0 in its first run, and only reads sheet 1 in its second
    ∷ case (at_one ++ "01 00  01 01  02 00 00  03 00 00 00 00 00 01  02 01 00  03 01 00 00 00 00 02  04 00  04 01  05 00  06 00  07 00 00  05 00  06 01  02 01 01  04 01  05 00  06 01  07 00 01") (answers accepted) "" "P 0 1 C\nP 1 2 C\nO 0 1 1\nO 1 0 0\nT 18 1 1\n"
    -- rows by last place: save 2 is submitted between save 1's two places
    ∷ case (at_one ++ "01 00  01 01  01 02  02 00 00  03 00 00 00 00 00 01  04 00  02 01 00  04 01  02 02 01  04 02  05 00  06 00  07 00 00  05 00  06 01  02 01 01  04 01") (answers accepted) "" "P 0 1 C\nP 2 1 U\nP 1 2 U\nO 0 1 1\nO 1 0 0\nT 17 1 0\n"
    -- the serial order by last place: save 2 read 1, and save 1, behind it by its last place, stores 2
    ∷ case (behind_it "05 00  06 00  07 00 00  02 02 00  04 02  05 00  06 01  02 01 00  03 01 00 00 00 00 02  04 01  05 00  06 02  07 00 02  05 00  06 01  07 00 01") (answers accepted) "" "P 0 1 C\nP 2 1 C\nP 1 2 C\nO 0 2 2\nT 24 2 1\n"
    -- S to X, failed by save 2's X, and a third run within the claim
    ∷ case (behind_it "02 02 00  03 02 00 00 00 00 03  04 02  05 00  06 00  07 00 00  05 00  05 00  06 01  02 01 00  03 01 00 00 00 00 02  04 01  05 00  06 02  02 02 00  04 02  07 00 02  06 01  02 01 00  03 01 00 00 00 00 07  04 01  07 00 01") (answers accepted) "" "P 0 1 C\nP 2 2 C\nP 1 3 C\nO 0 7 2\nT 30 1 2\n"
    -- wide twice: node 1, which owns nothing, passes both former places of save 1, then its last; the third run's place commits
    ∷ case (twice ++ "05 01  05 01  05 01  05 01") (answers (took 1 valid)) "" "P 0 1 C\nP 2 1 C\nP 1 3 U\nO 0 1 1\nO 1 5 1\nO 2 0 0\nT 29 2 0\n"
    ∷ case (twice ++ "05 01  05 01  05 01  05 01  05 01  05 00  06 01") (answers commits) "" "P 0 1 C\nP 2 1 C\nP 1 3 C\nO 0 1 1\nO 1 5 1\nO 2 0 0\nT 32 2 1\n"
    ∷ []
