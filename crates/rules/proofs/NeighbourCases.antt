-- The theorem about neighbours at work: the two orders of one session are such lists, swap by swap, so they have one report.
use mathlib.Core.Path.{◌≡◌, refl}
use mathlib.Core.List.{List, [], ◌∷◌, ◌++◌}
use Rattle.rules.specs.Table.{upd, upd2, row, all, any}
use Rattle.rules.specs.Bytes.{Command, Begin, Read, Write, Submit, Take, Decide, Apply, ended, read_from}
use Rattle.rules.specs.State.{fresh, wide_by}
use Rattle.rules.specs.Steps.{x_on, run}
use Rattle.rules.specs.Calls.{stop}
use Rattle.rules.specs.Report.{report}
use Rattle.rules.specs.Cases.{hex, in_one_order, in_another}
use Rattle.rules.specs.Demand3.{session_commands}
use Rattle.rules.specs.Writing.{form, in_bytes, operand_bytes, steps_bytes}
use Rattle.rules.specs.Neighbours.{Swaps, swap, behind, then, SwappedSteps, swapped_session}
use Rattle.rules.proofs.Neighbours.{same_report}

past : (front : List Command) {cs ds : List Command} → Swaps cs ds → Swaps (front ++ cs) (front ++ ds)
past [] p = p
past (c ∷ front) p = behind c (past front p)

-- up to the SUBMITs; from the first APPLY at node 1 to the second SUBMIT of save 1
abbrev opening : List Command
opening = Begin 0 ∷ Begin 1 ∷ Read 0 0 ∷ Read 0 1 ∷ Write 0 0 7 ∷ Read 1 0 ∷ Read 1 1 ∷ Write 1 1 9 ∷ Submit 0 ∷ Submit 1 ∷ []

abbrev run_again : List Command
run_again = Apply 1 0 ∷ Decide 1 ∷ Read 1 0 ∷ Read 1 1 ∷ Write 1 1 9 ∷ Submit 1 ∷ []

swapped : SwappedSteps (hex in_one_order) (hex in_another)
unfolding all read_from
swapped = record {
  opened = refl;
  one_header = refl;
  to_its_end = refl;
  steps =
      past opening
      (then (behind (Take 0) (swap (Take 0) (Take 1) _ refl))
      (then (swap (Take 0) (Take 1) _ refl)
      (past (Take 1 ∷ Take 0 ∷ Take 0 ∷ Decide 0 ∷ [])
      (then (swap (Take 1) (Apply 0 0) _ refl)
      (past (Apply 0 0 ∷ Take 1 ∷ run_again) (swap (Apply 0 1) (Apply 1 1) [] refl))))));
}

accepted_whole : stop (hex in_one_order) ≡ ended
unfolding upd upd2 row all any wide_by read_from fresh x_on run stop
accepted_whole = refl

pub one_report : report (hex in_another) ≡ report (hex in_one_order)
one_report = (same_report (hex in_one_order) (hex in_another) accepted_whole swapped).1

-- and the second one is what is written of its list under the first one's header
pub other_order : swapped_session (hex in_one_order) (session_commands (hex in_another)) ≡ hex in_another
unfolding read_from form in_bytes operand_bytes steps_bytes
other_order = refl
