-- Sessions in hexadecimal with their state's text, and with every command's answer. proofs/ShowingCases.antt proves both tables.
use Rattle.std.specs.Prelude.{List, [], ◌∷◌}
use Prim.Native.String.{String, ◌++◌}
use Rattle.rules.specs.Steps.{x_granted, cause, valid, invalid, accepted, content_is, took, commits, second_run}
use Rattle.rules.specs.Calls.{Reply, answers, refusal}

-- W (document 01) up to offset 36: both saves are taken, the second marked failed, and its X waits for the first's
abbrev w_36 : String
w_36 = "02 02 00 01  01 00  01 01  02 00 00  02 01 00  03 00 00 00 00 00 07  03 01 00 00 00 00 09  04 00  04 01  05 00  05 00  "

-- up to 43: save 0 is carried out, and save 1 in its second run
abbrev w_43 : String
w_43 = w_36 ++ "06 00  07 00 00  06 01  "

abbrev w : String
w = w_43 ++ "02 01 00  03 01 00 00 00 00 09  04 01  07 00 01"

-- save 0 reads the sheet, 1 reads and writes it, 2 reads it; all submitted and taken
abbrev three : String
three = "01 01 00  01 00  01 01  01 02  02 00 00  02 01 00  02 02 00  03 01 00 00 00 00 05  04 00  04 01  04 02  05 00  05 00  05 00"

-- saves 0 and 1 read the sheet, 2 reads and writes it, 3 reads it; all submitted and taken
abbrev two_before : String
two_before = "01 01 00  01 00  01 01  01 02  01 03  02 00 00  02 01 00  02 02 00  02 03 00  03 02 00 00 00 00 05  04 00  04 01  04 02  04 03  05 00  05 00  05 00  05 00"

-- ---- States

pub record StateCase : Type 0 where
  pub session : String
  pub lines : String

abbrev state : String → String → StateCase
state s l = record { session = s; lines = l }

abbrev pub states : List StateCase
states =
    state "01 01 00" "O 0 0 0\nT 0 0 0\nN 0 0\n"
    ∷ state w_36 "P 0 1 U\nP 1 1 U\nO 0 0 0\nO 1 0 0\nT 10 0 0\nS 0 S 1 - - 0\nS 1 S 1 F - 1\nL 0 0 L\nL 1 1 L\nN 0 2\nN 1 0\nC 0 0 X W 7 0 -\nC 1 0 X W 9 0 -\nQ 0 0 X G\nQ 0 1 X W 0\n"
    -- stopped by 10: the state before the refused DECIDE
    ∷ state (w_36 ++ "06 00  06 01  07 00 00") "P 0 1 C\nP 1 1 U\nO 0 0 0\nO 1 0 0\nT 11 1 0\nS 0 C 1 - - 0\nS 1 S 1 F - 1\nL 0 0 L\nL 1 1 L\nN 0 2\nN 1 0\nC 0 0 X W 7 0 -\nC 1 0 X W 9 0 -\nQ 0 0 X G\nQ 0 1 X W 0\n"
    -- the second run has its claim and no copy yet; the copy of the first is behind
    ∷ state w_43 "P 0 1 C\nP 1 2 U\nO 0 7 1\nO 1 0 0\nT 13 1 0\nS 0 C 1 - - 0\nS 1 L 2 F - 1\nL 0 0 L\nL 1 1 L\nN 0 2\nN 1 0\nC 0 0 X W 7 0 B\nC 1 0 X -\nQ 0 1 X G\n"
    -- the second run opens sheet 1: it is wide
    ∷ state (w_43 ++ "02 01 01") "P 0 1 C\nP 1 2 U\nO 0 7 1\nO 1 0 0\nT 14 1 0\nS 0 C 1 - - 0\nS 1 L 2 F W 1\nL 0 0 L\nL 1 1 L\nN 0 2\nN 1 0\nC 0 0 X W 7 0 B\nC 1 0 X -\nC 1 1 - R 0 0 -\nQ 0 1 X G\n"
    -- and joins the order again, with a larger claim
    ∷ state (w_43 ++ "02 01 01  04 01") "P 0 1 C\nP 1 2 U\nO 0 7 1\nO 1 0 0\nT 15 1 0\nS 0 C 1 - - 0\nS 1 S 2 - - 2\nL 0 0 L\nL 1 1 F\nL 2 1 L\nN 0 2\nN 1 0\nC 0 0 X W 7 0 B\nC 1 0 X -\nC 1 1 S R 0 0 -\n"
    -- S held, X waiting for it, S waiting for the X
    ∷ state three "P 0 1 U\nP 1 1 U\nP 2 1 U\nO 0 0 0\nT 13 0 0\nS 0 S 1 - - 0\nS 1 S 1 - - 1\nS 2 S 1 F - 2\nL 0 0 L\nL 1 1 L\nL 2 2 L\nN 0 3\nC 0 0 S R 0 0 -\nC 1 0 X W 5 0 -\nC 2 0 S R 0 0 -\nQ 0 0 S G\nQ 0 1 X W 0\nQ 0 2 S W 1\n"
    -- an X waits for every S before it, an S for the X alone
    ∷ state two_before "P 0 1 U\nP 1 1 U\nP 2 1 U\nP 3 1 U\nO 0 0 0\nT 17 0 0\nS 0 S 1 - - 0\nS 1 S 1 - - 1\nS 2 S 1 - - 2\nS 3 S 1 F - 3\nL 0 0 L\nL 1 1 L\nL 2 2 L\nL 3 3 L\nN 0 4\nC 0 0 S R 0 0 -\nC 1 0 S R 0 0 -\nC 2 0 X W 5 0 -\nC 3 0 S R 0 0 -\nQ 0 0 S G\nQ 0 1 S G\nQ 0 2 X W 0 1\nQ 0 3 S W 2\n"
    -- a first run has copies and no claim, and is never wide
    ∷ state "01 01 00  01 00  02 00 00" "O 0 0 0\nT 2 0 0\nS 0 F 1 - - -\nN 0 0\nC 0 0 - R 0 0 -\n"
    -- given up in the first run: no place
    ∷ state "01 01 00  01 03  02 03 00  08 03" "O 0 0 0\nT 3 0 0\nS 3 D 1 - - -\nN 0 0\nC 3 0 - R 0 0 -\n"
    ∷ []

-- ---- Answers

pub record AnswersCase : Type 0 where
  pub session : String
  pub answers_are : List Reply

abbrev told : String → List Reply → AnswersCase
told s a = record { session = s; answers_are = a }

abbrev ok : Reply
ok = answers accepted

-- the answers of W up to offset 36
abbrev w_36_answers : List Reply → List Reply
w_36_answers rest =
    ok ∷ ok ∷ answers (content_is 0) ∷ answers (content_is 0) ∷ ok ∷ ok ∷ ok ∷ ok ∷ answers (took 0 valid) ∷ answers (took 1 (invalid (cause 0 x_granted))) ∷ rest

abbrev pub answered : List AnswersCase
answered =
    told "01 01 00" []
    ∷ told w (w_36_answers (answers commits ∷ ok ∷ answers second_run ∷ answers (content_is 7) ∷ ok ∷ ok ∷ ok ∷ []))
    -- stopped by a rule, by an unknown command, by one cut short; what follows has no answer
    ∷ told (w_36 ++ "06 00  06 01  07 00 00") (w_36_answers (answers commits ∷ refusal 38 10 ∷ []))
    ∷ told "01 01 00  01 00  09  04 00" (ok ∷ refusal 5 2 ∷ [])
    ∷ told "01 01 00  01 00  03 00 00" (ok ∷ refusal 5 3 ∷ [])
    ∷ []
