-- Every case of the two tables, each table by one computation over the definitions.
use mathlib.Core.Path.{◌≡◌, refl}
use mathlib.Core.List.{List, map, ◌++◌}
use mathlib.Core.Option.{or_else}
use Prim.Native.Nat.{ℕ}
use Rattle.rules.specs.Table.{upd, upd2, row, all, any, first_below}
use Rattle.rules.specs.Bytes.{Apply, Stop, ended, read_from}
use Rattle.rules.specs.State.{State, fresh, wide_by, by_last}
use Rattle.rules.specs.Steps.{x_on, accepted, Result, answered, step, run}
use Rattle.rules.specs.Calls.{Reply, session_run, stop, reply, part, shown}
use Rattle.rules.specs.Counter.{wct_mark}
use Rattle.rules.specs.Report.{figures, decimal, field, rows, place_line, place_lines, sheet_line, sheet_lines, tally_line, refusal_line, stop_line, state_lines, report}
use Rattle.rules.specs.Cases.{Case, hex, text, starred, refusals, others, neighbours, causes, Marks, applies, unchanged, widened}

record Told : Type 0 where
  answer : Reply
  shown_bytes : List ℕ
  lines : List ℕ

abbrev computed : Case → Told
computed c = record { answer = reply (hex c.session); shown_bytes = shown (hex c.session); lines = report (hex c.session) }

abbrev stated : Case → Told
stated c = record { answer = c.answer; shown_bytes = hex c.shown; lines = text c.lines }

abbrev table : List Case
table = starred ++ refusals ++ others ++ neighbours ++ causes ++ unchanged ++ widened

pub cases : map computed table ≡ map stated table
unfolding upd upd2 row all any or_else first_below wide_by by_last read_from fresh x_on run stop reply part figures decimal field rows place_line place_lines sheet_line sheet_lines tally_line refusal_line stop_line state_lines report
cases = refl

-- ---- The marks of APPLYs

-- the session goes to its end, and the APPLY is accepted with these marks
record Applied : Type 0 where
  ends : Stop
  result : Result
  of_0 : ℕ
  of_1 : ℕ

abbrev applied : State → (n t : ℕ) → Stop → Applied
applied s n t e = record { ends = e; result = (step s (Apply n t)).result; of_0 = wct_mark s n t 0; of_1 = wct_mark s n t 1 }

abbrev computed_marks : Marks → Applied
computed_marks c = applied (session_run (hex c.session)).state c.node c.save (stop (hex c.session))

abbrev stated_marks : Marks → Applied
stated_marks c = record { ends = ended; result = answered accepted; of_0 = c.of_0; of_1 = c.of_1 }

pub marks : map computed_marks applies ≡ map stated_marks applies
unfolding upd upd2 row all any wide_by read_from fresh x_on run stop
marks = refl
