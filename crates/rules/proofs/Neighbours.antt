-- Steps at two nodes may change places: two of them in any state, any number of swaps in a list, and so in a session, whose report stays.
use Prim.Native.Nat.{ℕ}
use mathlib.Core.Path.{◌≡◌, refl, sym, ap, ◌∙◌}
use mathlib.Core.Bool.{true, false}
use mathlib.Core.Logic.{◌≢◌}
use mathlib.Core.List.{List, ◌∷◌, ◌++◌}
use mathlib.Core.Option.{Option, none, some}
use native.Mathlib.Omega.{arith}
use lib.Dec.{eqb}
use borrow.Author.Tests.{eqb-false, ne_eqb, not-true}
use Rattle.rules.specs.Bytes.{Command, Step, Stop, ended, stopped, header, opens, reading}
use Rattle.rules.specs.State.{State, fresh}
use Rattle.rules.specs.Steps.{Checked, pass, refuse, check, effect, answer, step_by, step, run}
use Rattle.rules.specs.Calls.{session_run, stop_by, stop}
use Rattle.rules.specs.Demand3.{session_commands}
use Rattle.rules.specs.Report.{state_lines, stop_line, report}
use Rattle.rules.specs.Writing.{Bytes}
use Rattle.rules.specs.Neighbours.{node_of, Untouched, OneNode, differ, EitherOrder, Neighbours, Swaps, as_it_was, swap, behind, then, SameReport, SessionNeighbours}
use Rattle.rules.proofs.Table.{bool, clash}
use Rattle.rules.proofs.Tests.{refuse_pass}
use Rattle.rules.proofs.Accepted.{run_accepts, run_refuses}
use Rattle.rules.proofs.OwnOrder.{own_order}
use Rattle.rules.proofs.Swapped.{swapped_report}
use Rattle.rules.proofs.Touching.{Work, node, command, as_work, at_work, plan, touch, as_touch, marks_next, untouched, same_check, same_answer, same_plan, touch_swap}

-- ---- One step

one_node : OneNode
one_node s = as_work (λ c n. Untouched n s (step s c).state) (λ w. go w (check s (command w)))
  where
    same : (n : ℕ) → Untouched n s s
    same n = record { header = refl; phase = refl; mark = refl; copy = refl; claim = refl; runs = refl; order = refl; place = refl; failed = λ t d. refl; still_failed = λ t e. e; sheet = λ k e. refl; queue = λ k e. refl; taken = λ m d. refl }

    go : (w : Work) (x : Checked) → Untouched (node w) s (step_by x s (command w)).state
    go w pass = rw (as_touch s w) (untouched s (node w) (plan s w) (marks_next s w))
    go w (refuse n) = same (node w)

-- ---- Two steps

module _ (s : State) (v w : Work) (d : node v ≢ node w) where
  still_checked : check (effect s (command v)) (command w) ≡ check s (command w)
  still_checked = rw (as_touch s v) (same_check s (node v) (plan s v) w d)

  still_answered : answer (effect s (command v)) (command w) ≡ answer s (command w)
  still_answered = rw (as_touch s v) (same_answer s (node v) (plan s v) w d)

  then_touched : effect (effect s (command v)) (command w) ≡ touch (touch s (node v) (plan s v)) (node w) (plan s w)
  then_touched = rw (as_touch s v) (as_touch (touch s (node v) (plan s v)) w ∙ ap (touch (touch s (node v) (plan s v)) (node w)) (same_plan s (node v) (plan s v) w d))

  -- the second step as it is refused or answered at once
  then_steps : (x : Checked) → check s (command w) ≡ x
      → step (effect s (command v)) (command w) ≡ record { state = (step_by x (effect s (command v)) (command w)).state; result = (step_by x s (command w)).result }
  then_steps pass e = rw (still_checked, e, still_answered)
  then_steps (refuse n) e = rw (still_checked, e)

effects_swap : (s : State) (v w : Work) → node v ≢ node w → effect (effect s (command v)) (command w) ≡ effect (effect s (command w)) (command v)
effects_swap s v w d = then_touched s v w d ∙ touch_swap s (node v) (node w) (plan s v) (plan s w) d ∙ sym (then_touched s w v (λ e. d (sym e)))

either_order : (s : State) (v w : Work) → node v ≢ node w → EitherOrder s (command v) (command w)
either_order s v w d = go (check s a) (check s b) refl refl
  where
    a : Command
    a = command v

    b : Command
    b = command w

    d' : node w ≢ node v
    d' e = d (sym e)

    go : (x y : Checked) → check s a ≡ x → check s b ≡ y → EitherOrder s a b
    go pass pass e f = record { answer_of_a = rw (f, e, then_steps s w v d' pass e); answer_of_b = rw (e, f, then_steps s v w d pass f); state = rw (e, f, then_steps s w v d' pass e, then_steps s v w d pass f) (effects_swap s w v d') }
    go pass (refuse m) e f = record { answer_of_a = rw (f, e); answer_of_b = rw (e, f, then_steps s v w d (refuse m) f); state = rw (e, f, e, then_steps s v w d (refuse m) f) }
    go (refuse n) pass e f = record { answer_of_a = rw (f, e, then_steps s w v d' (refuse n) e); answer_of_b = rw (e, f); state = rw (e, f, then_steps s w v d' (refuse n) e) }
    go (refuse n) (refuse m) e f = record { answer_of_a = rw (f, e); answer_of_b = rw (e, f); state = rw (e, f, e) }

neighbours : Neighbours
neighbours s = at_work (EitherOrder s) (either_order s)

-- ---- Lists

-- a list that is accepted whole: its first command, and the rest from there
run_whole : {P : Type 0} (s : State) (c : Command) (cs : List Command) → (run s (c ∷ cs)).end ≡ pass → (check s c ≡ pass → (run (effect s c) cs).end ≡ pass → P) → P
run_whole {P} s c cs w f = go (check s c) refl
  where
    go : (x : Checked) → check s c ≡ x → P
    go pass e = f e (rw (run_accepts s c cs e) at w)
    go (refuse n) e = refuse_pass n (rw (run_refuses s c cs n e) at w)

-- the state at the end of a list, where it is accepted whole
abbrev Ends : State → List Command → State → Type 0
Ends s cs z = ((run s cs).end ≡ pass) × ((run s cs).state ≡ z)

swap_ends : (s : State) (cs : List Command) (v w : Work) → node v ≢ node w → (run s (command v ∷ command w ∷ cs)).end ≡ pass → Ends s (command w ∷ command v ∷ cs) (run s (command v ∷ command w ∷ cs)).state
swap_ends s cs v w d r = run_whole s a (b ∷ cs) r (λ e r₁. run_whole (effect s a) b cs r₁ (λ f r₂.
    let f' = sym (still_checked s v w d) ∙ f in
    let e' = still_checked s w v (λ z. d (sym z)) ∙ e in
    rw (run_accepts s b (a ∷ cs) f', run_accepts (effect s b) a cs e', run_accepts s a (b ∷ cs) e, run_accepts (effect s a) b cs f, ← effects_swap s v w d) (r₂, refl)))
  where
    a : Command
    a = command v

    b : Command
    b = command w

same_end : {cs ds : List Command} → Swaps cs ds → (s : State) → (run s cs).end ≡ pass → Ends s ds (run s cs).state
same_end as_it_was s r = (r, refl)
same_end (swap a b cs d) s r = at_work (λ a b. (run s (a ∷ b ∷ cs)).end ≡ pass → Ends s (b ∷ a ∷ cs) (run s (a ∷ b ∷ cs)).state) (swap_ends s cs) a b d r
same_end (behind c {cs} {ds} p) s r = run_whole s c cs r (λ e r₁. rw (run_accepts s c cs e, run_accepts s c ds e) (same_end p (effect s c) r₁))
same_end (then p q) s r = let h = same_end p s r in let j = same_end q s h.0 in (j.0, j.1 ∙ h.1)

differ_back : (x y : Option ℕ) → differ x y ≡ true → differ y x ≡ true
differ_back (some n) (some m) e = rw (ne_eqb m n (λ z. eqb-false n m (not-true (eqb n m) e) (sym z)))
differ_back (some n) none e = e
differ_back none y e = clash false e refl

back : {cs ds : List Command} → Swaps cs ds → Swaps ds cs
back as_it_was = as_it_was
back (swap a b cs e) = swap b a cs (differ_back (node_of a) (node_of b) e)
back (behind c p) = behind c (back p)
back (then p q) = then (back q) (back p)

-- ---- Sessions

stopped_ended : {P : Type 0} (p n k : ℕ) → stopped p n k ≡ ended → P
stopped_ended p n k e = absurd (let z : ◌≡◌ {A = ℕ} 0 1 = cc in omega arith)

-- where the whole session is accepted, its steps are
stop_passes : (x : Checked) (st : Step) (r : Stop) → stop_by x st r ≡ ended → x ≡ pass
stop_passes pass st r e = refl
stop_passes (refuse n) st r e = stopped_ended st.offset n st.size e

whole : {P : Type 0} (b : List ℕ) → stop b ≡ ended → (opens b ≡ true → (session_run b).end ≡ pass → P) → P
unfolding stop
whole b e f = bool (opens b) (λ o. f o (stop_passes (session_run b).end _ _ (rw o at e))) (λ o. stopped_ended 0 1 0 (rw o at e))

report_whole : (b : List ℕ) → opens b ≡ true → stop b ≡ ended → report b ≡ state_lines (session_run b).state ++ stop_line ended
unfolding report
report_whole b o e = rw (o, e)

stop_whole : (b : List ℕ) → opens b ≡ true → (session_run b).end ≡ pass → (reading b).stop ≡ ended → stop b ≡ ended
unfolding stop
stop_whole b o r e = rw (o, r) e

pub same_report : (b : List ℕ) → SameReport b
same_report b b' e p = whole b e (λ o r.
    let h = same_end p.steps (fresh (header b)) r in
    let j : Ends (fresh (header b')) (session_commands b') (session_run b).state = rw p.one_header h in
    let e' = stop_whole b' p.opened j.0 p.to_its_end in
    (e', report_whole b' p.opened e' ∙ ap (λ x. state_lines x ++ stop_line ended) j.1 ∙ sym (report_whole b o e)))

-- of a session's bytes
pub session_neighbours : (b : List ℕ) → Bytes b → SessionNeighbours b
session_neighbours b h = record {
  one_node = one_node;
  steps = neighbours;
  back = λ cs ds. back;
  lists = λ s cs ds p. same_end p s;
  own_order = own_order;
  reports = same_report b;
  written = swapped_report b h (same_report b);
}
