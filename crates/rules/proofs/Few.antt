-- No report is empty, and no session has more steps or answers than its bytes have room for.
use Prim.Native.Nat.{ℕ, zero, suc, ◌+◌, ◌*◌, ◌≤◌, ◌<◌}
use mathlib.Core.Path.{◌≡◌, refl}
use mathlib.Core.Bool.{true}
use mathlib.Core.List.{List, [], ◌∷◌}
use mathlib.Core.Option.{Option, none, some}
use native.Mathlib.Omega.{arith}
use lib.Dec.{ltb}
use lib.ListN.{length, drop, length-append, length-drop, length-map}
use borrow.Author.Tests.{ltb-true, ltb-false}
use Rattle.rules.specs.Sizes.{min_buffer}
use Rattle.rules.specs.Bytes.{header, header_size, opens, Form, form_of, commands, widths, front_by, Step, Stop, ended, stopped, Reading, read_front, read_from, reading}
use Rattle.rules.specs.State.{State, fresh}
use Rattle.rules.specs.Steps.{Result, answered, refused, step}
use Rattle.rules.specs.Calls.{session_run}
use Rattle.rules.specs.Report.{tally_line, refusal_line, stop_line, state_lines, report, report_call, OnlyTwelve}
use Rattle.rules.specs.Writing.{FewSteps}
use Rattle.rules.specs.Answers.{reply_on, replies, session_replies, FewAnswers}
use Rattle.rules.proofs.Table.{bool}
use Rattle.rules.proofs.Sessions.{stop_unopened}
use Rattle.rules.proofs.Writing.{in_table, opened, ranged, read_inverts, read_steps}

-- ---- The report

state_some : (s : State) → 0 < length (state_lines s)
unfolding state_lines tally_line
state_some s = rw (length-append, length-append) (omega arith)

refusal_some : (p n shown : ℕ) → 0 < length (stop_line (stopped p n shown))
unfolding stop_line refusal_line
refusal_some p n shown = omega arith

report_some : (b : List ℕ) → 0 < length (report b)
unfolding report
report_some b = bool (opens b) (λ o. rw (o, length-append) (omega (arith, state_some (session_run b).state))) (λ o. rw (o, stop_unopened b o) (refusal_some 0 1 0))

pub only_twelve : (b buffer : List ℕ) → OnlyTwelve b buffer
unfolding report_call
only_twelve b buffer e = bool (ltb (length buffer) min_buffer) (λ t. ltb-true (length buffer) min_buffer t) (λ t. absurd (let z : length (report b) ≡ 0 = rw t at e in omega (arith, report_some b)))

-- ---- The steps: each has a byte of its own and one operand byte at least

abbrev one_more : Stop → ℕ
one_more ended = 0
one_more (stopped p n shown) = 1

-- a reading of bytes: two for each step, and one where it stops
abbrev Small : Reading → ℕ → Type 0
Small r n = 2 * length r.steps + one_more r.stop ≤ n

some_operand : (b : ℕ) (f : Form) → form_of b commands ≡ some f → 1 ≤ widths f.operands
some_operand b f e = in_table (λ f. 1 ≤ widths f.operands) commands (search arith) b f e

few_read : (w p : ℕ) (bs : List ℕ) → Small (read_from w p bs) (length (drop w bs))
unfolding read_from
few_read zero p [] = omega arith
few_read (suc w) p [] = omega arith
few_read (suc w) p (b ∷ bs) = few_read w (suc p) bs
few_read zero p (b ∷ bs) = go (form_of b commands) refl (λ w. few_read w (suc p) bs)
  where
    go : (o : Option Form) → form_of b commands ≡ o → ((w : ℕ) → Small (read_from w (suc p) bs) (length (drop w bs)))
        → Small (read_front (front_by (form_of b commands) bs) p (length bs) (λ w. read_from w (suc p) bs)) (suc (length bs))
    go none e on = rw e (omega arith)
    go (some f) e on = bool (ltb (length bs) (widths f.operands))
        (λ t. rw (e, t) (omega arith))
        (λ t. rw (e, t) (omega (arith, on (widths f.operands), length-drop (widths f.operands) bs, some_operand b f e, ltb-false (length bs) (widths f.operands) t)))

session_small : (b : List ℕ) → opens b ≡ true → Small (reading b) 16381
session_small b o = let a = opened b o in let r = ranged (header b) a.ranges in omega (arith, few_read 0 (header_size b) (drop (header_size b) b), length-drop (header_size b) b, a.size, a.fits, r.some_sheet)

pub few_steps : (b : List ℕ) → FewSteps b
few_steps b g is e = read_inverts b g is e (λ o _ _. rw (read_steps b g is e, length-map, length-map) (omega (arith, session_small b o)))

-- ---- The answers: one for each step, and one where the reading stops

few_replies : (s : State) (cs : List Step) (x : Stop) → length (replies s cs x) ≤ length cs + one_more x
unfolding replies
few_replies s [] ended = omega arith
few_replies s [] (stopped p n shown) = omega arith
few_replies s (c ∷ cs) x = go (step s c.command).result (step s c.command).state (λ s'. few_replies s' cs x)
  where
    go : (r : Result) (s' : State) → ((s' : State) → length (replies s' cs x) ≤ length cs + one_more x) → length (reply_on r c.offset s' (λ s'. replies s' cs x)) ≤ suc (length cs) + one_more x
    go (answered a) s' on = omega (arith, on s')
    go (refused n) s' on = omega arith

stop_one : (x : Stop) → one_more x ≤ 1
stop_one ended = omega arith
stop_one (stopped p n shown) = omega arith

pub few_answers : (b : List ℕ) → FewAnswers b
unfolding session_replies
few_answers b o = omega (arith, few_replies (fresh (header b)) (reading b).steps (reading b).stop, session_small b o, stop_one (reading b).stop)
