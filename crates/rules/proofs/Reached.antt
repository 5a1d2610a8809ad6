-- The states that commands lead to from new nodes: the invariant holds, and the figures stay small.
use Prim.Native.Nat.{ℕ, suc, ◌+◌, ◌*◌, ◌≤◌, ◌<◌}
use mathlib.Core.Path.{◌≡◌, refl, sym}
use mathlib.Core.Bool.{Bool, true, false, ◌||◌, true≢false}
use mathlib.Core.List.{List, [], ◌∷◌}
use mathlib.Core.Option.{Option, none}
use native.Mathlib.Omega.{arith}
use native.Mathlib.Nat.{le_refl}
use lib.ListN.{length}
use lib.Dec.{ltb}
use borrow.Author.Tests.{ltb-true}
use Rattle.rules.specs.Table.{upd}
use Rattle.rules.specs.Sizes.{max_saves}
use Rattle.rules.specs.Bytes.{Header, Command, Begin, Read, Write, Submit, Take, Decide, Apply, GiveUp}
use Rattle.rules.specs.State.{Sheet, store, Phase, unused, first, submitted, second, committed, dropped, Tally, State, fresh, is_unused, is_first, is_submitted, running, wide, at, by_last}
use Rattle.rules.specs.Steps.{next, next_is_last, finds_invalid, tests, check, Checked, pass, refuse, counted, counted_first, counted_second, counted_commit, submit_save, take_next, decide_save, receives, effect, answer, step_by, step, run}
use Rattle.rules.specs.Serial.{History, no_history, says_again, hear, reads_after}
use Rattle.rules.proofs.Table.{cond_at, upd_same, upd_other, sum, sum_rises, sum_falls, sum_bound, one, one_one}
use Rattle.rules.proofs.Tests.{passed_asked}
use Rattle.rules.proofs.Storing.{store_most}
use Rattle.rules.proofs.Places.{snoc_long}
use Rattle.rules.proofs.LastPlaces.{lasts_few}
use Rattle.rules.proofs.Invariant.{Inv}
use Rattle.rules.proofs.Accepted.{keeps, starts, run_accepts, run_refuses}
use Rattle.rules.proofs.Serializable.{runs_few}

-- ---- Figures: no WCT and no count of saves is above the count of accepted commands; and a place takes three of them, a TAKE that marks the save
-- failed, a DECIDE and a SUBMIT, but for each save's first, which takes a BEGIN and a SUBMIT

-- how many of the three a save has towards its next place; a new one has the one that its first place does without
abbrev due : Phase → (failed : Bool) → ℕ
due unused f = 1
due first f = 2
due submitted f = one f
due second f = 2
due committed f = 0
due dropped f = 0

abbrev towards : (ℕ → Phase) → (failed : ℕ → Bool) → ℕ
towards phase failed = sum max_saves (λ t. due (phase t) (failed t))

pub record Counted (sheet : ℕ → Sheet) (phase : ℕ → Phase) (failed : ℕ → Bool) (order : List ℕ) (a : Tally) : Type 0 where
  pub wct : (k : ℕ) → (sheet k).wct ≤ a.accepted
  pub first : a.from_first ≤ a.accepted
  pub second : a.from_second ≤ a.accepted
  pub places : 3 * length order + towards phase failed ≤ a.accepted + max_saves

due_begun : (p : Phase) (f : Bool) → is_unused p ≡ true → 2 ≤ due p f + 1
due_begun unused f e = omega arith
due_begun first f e = omega arith
due_begun submitted f e = absurd (true≢false (sym e))
due_begun second f e = omega arith
due_begun committed f e = absurd (true≢false (sym e))
due_begun dropped f e = absurd (true≢false (sym e))

due_again : (p : Phase) → is_submitted p ≡ true → 2 ≤ due p true + 1
due_again unused e = omega arith
due_again first e = omega arith
due_again submitted e = omega arith
due_again second e = omega arith
due_again committed e = absurd (true≢false (sym e))
due_again dropped e = absurd (true≢false (sym e))

due_running : (p : Phase) (f : Bool) → running p ≡ true → 2 ≤ due p f
due_running unused f e = absurd (true≢false (sym e))
due_running first f e = omega arith
due_running submitted f e = absurd (true≢false (sym e))
due_running second f e = omega arith
due_running committed f e = absurd (true≢false (sym e))
due_running dropped f e = absurd (true≢false (sym e))

due_marked : (p : Phase) (f x : Bool) → due p (f || x) ≤ due p f + 1
due_marked unused f x = omega arith
due_marked first f x = omega arith
due_marked submitted f x = omega (arith, one_one (f || x))
due_marked second f x = omega arith
due_marked committed f x = omega arith
due_marked dropped f x = omega arith

module _ (phase : ℕ → Phase) (failed : ℕ → Bool) (t : ℕ) where
  -- one save's phase becomes another, one is marked, one submitted
  moves : (p : Phase) → due p (failed t) ≤ due (phase t) (failed t) + 1 → towards (upd phase t p) failed ≤ towards phase failed + 1
  moves p h = sum_rises max_saves (λ u. due (upd phase t p u) (failed u)) (λ u. due (phase u) (failed u)) 1 t
      (rw (upd_same phase t p) h) (λ u d. rw (upd_other phase t p u d) (le_refl (due (phase u) (failed u))))

  marks : (x : Bool) → towards phase (upd failed t (failed t || x)) ≤ towards phase failed + 1
  marks x = sum_rises max_saves (λ u. due (phase u) (upd failed t (failed t || x) u)) (λ u. due (phase u) (failed u)) 1 t
      (rw (upd_same failed t (failed t || x)) (due_marked (phase t) (failed t) x)) (λ u d. rw (upd_other failed t (failed t || x) u d) (le_refl (due (phase u) (failed u))))

  joins : t < max_saves → running (phase t) ≡ true → towards (upd phase t submitted) (upd failed t false) + 2 ≤ towards phase failed
  joins ht r = sum_falls max_saves (λ u. due (upd phase t submitted u) (upd failed t false u)) (λ u. due (phase u) (failed u)) 2 t ht
      (rw (upd_same phase t submitted, upd_same failed t false) (due_running (phase t) (failed t) r))
      (λ u _ d. rw (upd_other phase t submitted u d, upd_other failed t false u d) (le_refl (due (phase u) (failed u))))

module _ {sheet : ℕ → Sheet} {phase : ℕ → Phase} {failed : ℕ → Bool} {order : List ℕ} {a : Tally} (v : Counted sheet phase failed order a) where
  -- a command is accepted, with at most one step more towards a place
  with_saves : (phase' : ℕ → Phase) (failed' : ℕ → Bool) → towards phase' failed' ≤ towards phase failed + 1 → Counted sheet phase' failed' order (counted a)
  with_saves phase' failed' h = record { wct = λ k. omega (arith, v.wct k); first = omega (arith, v.first); second = omega (arith, v.second); places = omega (arith, v.places) }

  more : Counted sheet phase failed order (counted a)
  more = with_saves phase failed (omega arith)

  commits_first : (phase' : ℕ → Phase) → towards phase' failed ≤ towards phase failed + 1 → Counted sheet phase' failed order (counted_first a)
  commits_first phase' h = record { wct = λ k. omega (arith, v.wct k); first = omega (arith, v.first); second = omega (arith, v.second); places = omega (arith, v.places) }

  commits_second : (phase' : ℕ → Phase) → towards phase' failed ≤ towards phase failed + 1 → Counted sheet phase' failed order (counted_second a)
  commits_second phase' h = record { wct = λ k. omega (arith, v.wct k); first = omega (arith, v.first); second = omega (arith, v.second); places = omega (arith, v.places) }

module _ (s : State) (v : Counted s.sheet s.phase s.failed s.order s.tally) where
  abbrev After : State → Type 0
  After s' = Counted s'.sheet s'.phase s'.failed s'.order s'.tally

  -- a save that is over has none
  ends : (t : ℕ) (p : Phase) → due p (s.failed t) ≡ 0 → towards (upd s.phase t p) s.failed ≤ towards s.phase s.failed + 1
  ends t p z = moves s.phase s.failed t p (rw z (omega arith))

  commit_counted : (t : ℕ) (b : Bool) → Counted s.sheet (upd s.phase t committed) s.failed s.order (counted_commit b s.tally)
  commit_counted t true = commits_second v (upd s.phase t committed) (ends t committed refl)
  commit_counted t false = commits_first v (upd s.phase t committed) (ends t committed refl)

  take_counted : (n : ℕ) (b : Bool) → After (take_next b s n)
  take_counted n true = with_saves v s.phase (upd s.failed (next s n) (s.failed (next s n) || finds_invalid s n (next s n))) (marks s.phase s.failed (next s n) (finds_invalid s n (next s n)))
  take_counted n false = more v

  submit_counted : (t : ℕ) (b : Bool) → t < max_saves → running (s.phase t) ≡ true → After (submit_save b s t)
  submit_counted t true ht r = record {
    wct = (more v).wct;
    first = (more v).first;
    second = (more v).second;
    places = rw (snoc_long s.order s.place t) (omega (arith, v.places, joins s.phase s.failed t ht r));
  }
  submit_counted t false ht r = commits_second v (upd s.phase t committed) (ends t committed refl)

  decide_counted : (t : ℕ) (b : Bool) → s.failed t ≡ b → is_submitted (s.phase t) ≡ true → After (decide_save b s t)
  decide_counted t true f u = with_saves v (upd s.phase t second) s.failed (moves s.phase s.failed t second (rw f (due_again (s.phase t) u)))
  decide_counted t false f u = commit_counted t (ltb 1 (s.runs t))

  effect_counted : (c : Command) → check s c ≡ pass → After (effect s c)
  effect_counted (Begin t) e =
      with_saves v (upd s.phase t first) s.failed (moves s.phase s.failed t first (due_begun (s.phase t) (s.failed t) (passed_asked (tests s (Begin t)) e 5).0))
  effect_counted (Read t k) e = more v
  effect_counted (Write t k x) e = more v
  effect_counted (Submit t) e =
      let g = passed_asked (tests s (Submit t)) e in submit_counted t (is_first (s.phase t) || wide s t) (ltb-true t max_saves (g 4).0) (g 5).0
  effect_counted (Take n) e = take_counted n (next_is_last s n)
  effect_counted (Decide t) e = decide_counted t (s.failed t) refl (passed_asked (tests s (Decide t)) e 5).0
  effect_counted (Apply n t) e = record {
    wct = λ k. cond_at (λ c. c.wct ≤ suc s.tally.accepted) (receives s n t k) (store (s.sheet k) (s.copy t k).content) (s.sheet k)
        (λ _. omega (arith, v.wct k, store_most (s.sheet k) (s.copy t k).content)) (λ _. omega (arith, v.wct k));
    first = (more v).first;
    second = (more v).second;
    places = (more v).places;
  }
  effect_counted (GiveUp t) e = with_saves v (upd s.phase t dropped) s.failed (ends t dropped refl)

-- ---- States that commands lead to

pub record Reached (s : State) : Type 0 where
  pub history : History
  pub reads : ℕ → ℕ → Option ℕ
  pub inv : Inv s history reads
  pub figures : Counted s.sheet s.phase s.failed s.order s.tally

pub reached_fresh : (h : Header) → Reached (fresh h)
unfolding fresh
reached_fresh h = record {
  history = no_history;
  reads = λ t k. none;
  inv = starts h;
  figures = record { wct = λ k. le_refl 0; first = le_refl 0; second = le_refl 0; places = none_placed };
}
  where
    none_placed : 3 * 0 + sum max_saves (λ t. 1) ≤ 0 + max_saves
    none_placed = omega (arith, sum_bound max_saves 1 (λ t. 1) (λ t _. le_refl 1))

pub reached_step : (s : State) (c : Command) → Reached s → Reached (step s c).state
reached_step s c v = go (check s c) refl
  where
    go : (x : Checked) → check s c ≡ x → Reached (step_by x s c).state
    go pass e = record {
      history = hear v.history c (says_again (answer s c));
      reads = reads_after v.reads c (answer s c);
      inv = keeps s v.history v.reads c v.inv e;
      figures = effect_counted s v.figures c e;
    }
    go (refuse n) e = v

pub reached_run : (cs : List Command) (s : State) → Reached s → Reached (run s cs).state
unfolding run
reached_run [] s v = v
reached_run (c ∷ cs) s v = go (check s c) refl (reached_run cs) (reached_step s c v)
  where
    go : (x : Checked) → check s c ≡ x → ((s' : State) → Reached s' → Reached (run s' cs).state) → Reached (step_by (check s c) s c).state → Reached (run s (c ∷ cs)).state
    go pass e f r = rw (run_accepts s c cs e) (f (effect s c) (rw e at r))
    go (refuse n) e f r = rw (run_refuses s c cs n e) v

module _ (s : State) (v : Reached s) where
  pub rows_fit : length (by_last s.order s.place (length s.order)) ≤ max_saves
  rows_fit = lasts_few s.order s.place (length s.order) (λ q h. v.inv.places.small (at s.order q) (v.inv.places.placed q h))

  -- a running save finds a place
  pub places_fit : (t : ℕ) → t < max_saves → running (s.phase t) ≡ true → 3 * length s.order + 2 ≤ s.tally.accepted + max_saves
  places_fit t h e = omega (arith, v.figures.places, sum_falls max_saves (λ u. 0) (λ u. due (s.phase u) (s.failed u)) 2 t h (omega (arith, due_running (s.phase t) (s.failed t) e)) (λ u _ _. omega arith))

  pub runs_fit : (t : ℕ) → s.runs t ≤ 2 + 2 * s.header.sheets
  runs_fit t = rw v.inv.linked.runs_same at (runs_few s v.history v.reads v.inv t)
