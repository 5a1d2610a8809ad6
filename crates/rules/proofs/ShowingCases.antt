-- Every case of the two tables, each table by one computation over the definitions.
use mathlib.Core.Path.{◌≡◌, refl}
use mathlib.Core.List.{map}
use mathlib.Core.Option.{or_else}
use Rattle.rules.specs.Table.{upd, upd2, row, all, any, first_below}
use Rattle.rules.specs.Bytes.{read_from}
use Rattle.rules.specs.State.{fresh, wide_by, by_last}
use Rattle.rules.specs.Steps.{x_on, run}
use Rattle.rules.specs.Calls.{session_run, stop, reply}
use Rattle.rules.specs.Report.{figures, decimal, field, rows, place_line, place_lines, sheet_line, sheet_lines, tally_line, state_lines}
use Rattle.rules.specs.Answers.{replies, session_replies, ends}
use Rattle.rules.specs.Showing.{rising, each, lettered, opening, save_head, save_marks, save_line, order_line_of, node_line_of, holding_head, copy_fields, holding_line, ways, grant_text, entry_head, entry_line, save_lines, order_lines, node_lines, holding_lines, queue_lines, state_text}
use Rattle.rules.specs.Cases.{hex, text}
use Rattle.rules.specs.ShowingCases.{StateCase, states, AnswersCase, answered}

pub shown : map (λ (c : StateCase). state_text (session_run (hex c.session)).state) states ≡ map (λ (c : StateCase). text c.lines) states
unfolding upd upd2 row all any wide_by by_last read_from fresh x_on run figures decimal field rows place_line place_lines sheet_line sheet_lines tally_line state_lines rising each lettered opening save_head save_marks save_line order_line_of node_line_of holding_head copy_fields holding_line ways grant_text entry_head entry_line save_lines order_lines node_lines holding_lines queue_lines state_text
shown = refl

pub told : map (λ (c : AnswersCase). session_replies (hex c.session)) answered ≡ map (λ (c : AnswersCase). c.answers_are) answered
unfolding upd upd2 row all any or_else first_below wide_by read_from fresh x_on run replies session_replies
told = refl

-- the same by the answer call on each prefix
pub cut : map (λ (c : AnswersCase). map (λ n. reply (lib.ListN.take n (hex c.session))) (ends (hex c.session))) answered ≡ map (λ (c : AnswersCase). c.answers_are) answered
unfolding upd upd2 row all any or_else first_below wide_by read_from fresh x_on run stop reply
cut = refl
