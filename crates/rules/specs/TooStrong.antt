-- Claims that look natural and say more than is true, each with a session against it. proofs/TooStrong.antt proves that none of them holds.
use Rattle.std.specs.Prelude.{ℕ, ◌+◌, ◌*◌, ◌≤◌, ◌≡◌, true, List, [], ◌∷◌}
use Prim.Native.String.{String, ◌++◌}
use Rattle.std.proofs.Math.Option.{some}
use Rattle.rules.specs.Bytes.{Command, Submit, Take, Decide, Apply, header, opens}
use Rattle.rules.specs.State.{State}
use Rattle.rules.specs.Demand3.{after, told, FourKinds, accepted_of, places, wide_runs, session_commands}
use Rattle.rules.specs.Report.{report}
use Rattle.rules.specs.Neighbours.{node_of, EitherOrder, SwappedSteps}
use Rattle.rules.specs.Cases.{one_taken}

-- ---- A save enters at most 2 + M runs (document 02 [7]: 2 + 2×M)

abbrev pub RunsTwoAndM : Type 0
RunsTwoAndM = (b : List ℕ) → opens b ≡ true → (t : ℕ) → (told (header b) (session_commands b)).runs t ≤ 2 + (header b).sheets

-- One node with sheets 0 and 1. Save 1 reads sheet 0 and fails by save 2's counter; it then writes sheet 0, opens sheet 1 and writes it, one after the other, and each
-- time fails by the X of saves 3, 4 and 5: it claims S, then X, on each of the sheets, and enters five runs.
abbrev pub five_runs : String
five_runs =
    "01 02 00 00  01 01  01 02  01 03  01 04  01 05  02 01 00  02 02 00  03 02 00 00 00 00 01  04 02  05 00  06 02  07 00 02  04 01  05 00  06 01  " ++ "02 03 00  03 03 00 00 00 00 02  04 03  05 00  02 01 00  03 01 00 00 00 00 03  04 01  05 00  06 03  07 00 03  06 01  " ++ "02 04 01  03 04 01 00 00 00 01  04 04  05 00  02 01 01  04 01  05 00  06 04  07 00 04  06 01  " ++ "02 05 01  03 05 01 00 00 00 02  04 05  05 00  02 01 01  03 01 01 00 00 00 04  04 01  05 00  06 05  07 00 05  06 01"

-- ---- A run that is already wide is one step more (document 02 [7]: one more place)

abbrev pub WideRunOneStep : Type 0
WideRunOneStep = (b : List ℕ) → opens b ≡ true → (more : List Command) → FourKinds (after (header b) (session_commands b)) more
    → accepted_of (after (header b) (session_commands b)) more ≤ (2 * (header b).nodes + 2) * places (header b) (session_commands b) + wide_runs (after (header b) (session_commands b))

-- Four nodes with a sheet each. Save 0 writes sheet 0 and is carried out; saves 1, 2 and 3 have read it, fail, and open all sheets: four places, three wide runs. Only
-- node 0 has taken anything.
abbrev pub three_wide : String
three_wide =
    "04 04 00 01 02 03  01 00  02 00 00  01 01  02 01 00  01 02  02 02 00  01 03  02 03 00  03 00 00 00 00 00 01  04 00  05 00  04 01  05 00  04 02  05 00  04 03  05 00  06 00  07 00 00  " ++ "06 01  02 01 00  02 01 01  02 01 02  02 01 03  03 01 01 00 00 00 01  06 02  02 02 00  02 02 01  02 02 02  02 02 03  03 02 01 00 00 00 02  " ++ "06 03  02 03 00  02 03 01  02 03 02  02 03 03  03 03 01 00 00 00 03"

-- save t is carried out at the four nodes
abbrev carried_out : ℕ → List Command → List Command
carried_out t cs = Apply 0 t ∷ Apply 1 t ∷ Apply 2 t ∷ Apply 3 t ∷ cs

-- a node takes all seven places
abbrev seven : ℕ → List Command → List Command
seven n cs = Take n ∷ Take n ∷ Take n ∷ Take n ∷ Take n ∷ Take n ∷ Take n ∷ cs

-- They join the order once more; the second and the third of them fail again. 44 steps, where (2×4+2)×4+3 is 43.
abbrev pub forty_four : List Command
forty_four =
    Submit 1 ∷ Take 0 ∷ Submit 2 ∷ Take 0 ∷ Submit 3 ∷ Take 0
    ∷ seven 1 (seven 2 (seven 3 (Decide 1 ∷ carried_out 1 (Decide 2 ∷ Submit 2 ∷ carried_out 2 (Decide 3 ∷ Submit 3 ∷ carried_out 3 [])))))

-- ---- Two steps at one node may change places (document 02 [3]: at different nodes)

abbrev pub AtOneNode : Type 0
AtOneNode = (s : State) (a b : Command) (n : ℕ) → node_of a ≡ some n → node_of b ≡ some n → EitherOrder s a b

-- One sheet; save 0 has written it and is committed, save 1 is submitted. The TAKE that meets save 1 before save 0's APPLY finds the X granted; behind it, the
-- counter behind.
abbrev pub take_or_apply : String
take_or_apply = "01 01 00  01 00  01 01  02 00 00  02 01 00  03 00 00 00 00 00 01  04 00  04 01  05 00  06 00"

-- ---- Swaps leave the report of a session that stops too (document 02 [3]: "a whole accepted session's"; "a refused neighbour is covered for the single steps only")

abbrev pub AnyReportStays : Type 0
AnyReportStays = (b b' : List ℕ) → opens b ≡ true → SwappedSteps b b' → report b' ≡ report b

-- node 0's second TAKE is refused: behind node 1's TAKE it has another offset, and one command more is counted
abbrev pub refused_first : String
refused_first = one_taken ++ "05 00  05 01"

abbrev pub refused_last : String
refused_last = one_taken ++ "05 01  05 00"

-- All of them together.
pub record NoneHolds : Type 0 where
  pub runs : RunsTwoAndM → ⊥
  pub bound : WideRunOneStep → ⊥
  pub steps : AtOneNode → ⊥
  pub reports : AnyReportStays → ⊥
