-- Every accepted command keeps the invariant, so it holds after any list of commands from new nodes.
use Prim.Native.Nat.{ℕ, ◌<◌}
use mathlib.Core.Path.{◌≡◌, refl, sym, ap, ◌∙◌}
use mathlib.Core.Bool.{Bool, true, false, not, ◌&&◌, ◌||◌, cond, true≢false}
use mathlib.Core.List.{List, [], ◌∷◌, map}
use mathlib.Core.Option.{Option, none}
use native.Mathlib.Omega.{arith}
use native.Mathlib.Nat.{le_refl, not-suc-le-zero}
use lib.ListN.{length}
use lib.Dec.{ltb}
use borrow.Author.Tests.{eqb-true, eqb-false, not-true, lt-ltb, ltb-true}
use Rattle.rules.specs.Sizes.{max_saves}
use Rattle.rules.specs.Bytes.{Header, Command, Begin, Read, Write, Submit, Take, Decide, Apply, GiveUp}
use Rattle.rules.specs.State.{Phase, unused, first, submitted, second, committed, dropped, State, fresh, is_first, running, claims, wide}
use Rattle.rules.specs.Steps.{mem, owns, next, next_is_last, tests, check, Checked, pass, refuse, submit_save, take_next, decide_save, effect, answer, prepend, run}
use Rattle.rules.specs.Serial.{feed, says_again, History, no_history, commit, join, hear, heard, reads_after, first_reads}
use Rattle.rules.specs.Demand3.{after, told, first_answers}
use Rattle.rules.proofs.Table.{bool, and_l, and_r, any_at}
use Rattle.rules.proofs.Tests.{passed_asked}
use Rattle.rules.proofs.Places.{entries, fold, entries_out}
use Rattle.rules.proofs.Invariant.{level, RunsOf, Stands, live, storing, stores, Inv}
use Rattle.rules.proofs.Phases.{unused_is, submitted_is}
use Rattle.rules.proofs.Running.{keeps_begin, keeps_give_up, keeps_read, keeps_write}
use Rattle.rules.proofs.Deciding.{keeps_resubmit, keeps_decide_commit, keeps_decide_second}
use Rattle.rules.proofs.Joining.{level_rises, keeps_join}
use Rattle.rules.proofs.Taking.{keeps_take, keeps_move_on}
use Rattle.rules.proofs.Applying.{keeps_apply}

-- ---- One command

-- a save that has an entry: it stands, is taken there, claims the sheet, and is not carried out there
pub entry_of : {P : Type 0} (s : State) (l : History) (r : ℕ → ℕ → Option ℕ) (t k : ℕ) → Inv s l r → mem t (s.queue k) ≡ true
    → (Stands s.order s.place t → s.place t < s.taken (s.header.owner k) → claims (s.claim t k) ≡ true → l.applied (s.header.owner k) t ≡ false → P) → P
unfolding live
entry_of s l r t k v m f =
    let own = s.header.owner in
    let F : ℕ → Bool = live own s.claim l.applied k in
    entries_out s.order s.place F (s.taken (own k)) t (rw (v.queues k) at m)
    (λ o e w. f (o' o, e) o (and_l (claims (s.claim t k)) (not (l.applied (own k) t)) w) (not-true (l.applied (own k) t) (and_r (claims (s.claim t k)) (not (l.applied (own k) t)) w)))
  where
    o' : {p : ℕ} → p < s.taken (s.header.owner k) → p < length s.order
    o' o = omega (arith, v.places.bound (s.header.owner k))

-- a save whose APPLY is accepted: it stands, is taken there, and is not carried out there
pub applied_of : {P : Type 0} (s : State) (l : History) (r : ℕ → ℕ → Option ℕ) (n t : ℕ) → Inv s l r → check s (Apply n t) ≡ pass
    → (Stands s.order s.place t → s.place t < s.taken n → l.applied n t ≡ false → P) → P
applied_of s l r n t v e f =
    any_at s.header.sheets (λ k. owns s n k && mem t (s.queue k)) (passed_asked (tests s (Apply n t)) e 11).0
    (λ k h y. let z = eqb-true (s.header.owner k) n (and_l (owns s n k) (mem t (s.queue k)) y) in
    entry_of s l r t k v (and_r (owns s n k) (mem t (s.queue k)) y) (λ st o _ a. f st (rw z at o) (rw z at a)))

pub keeps : (s : State) (l : History) (r : ℕ → ℕ → Option ℕ) (c : Command) → Inv s l r → check s c ≡ pass
    → Inv (effect s c) (hear l c (says_again (answer s c))) (reads_after r c (answer s c))
keeps s l r (Begin t) v e = let g = passed_asked (tests s (Begin t)) e in keeps_begin s l r t v (ltb-true t max_saves (g 4).0) (unused_is (s.phase t) (g 5).0)
keeps s l r (Read t k) v e =
    let g = passed_asked (tests s (Read t k)) e in keeps_read s l r t k v (ltb-true k s.header.sheets (g 4).1.0) (g 5).0
keeps s l r (Write t k x) v e = let g = passed_asked (tests s (Write t k x)) e in keeps_write s l r t k x v (g 5).0 (g 7).0
keeps s l r (Submit t) v e = let g = passed_asked (tests s (Submit t)) e in go (ltb-true t max_saves (g 4).0) (s.phase t) refl (g 5).0 (v.linked.runs_right t)
  where
    once : (m z : ℕ) → m ≡ 1 → RunsOf submitted m z
    once m z e = (omega arith, omega arith)

    runs_are : l.runs t ≡ s.runs t
    runs_are = ap (λ f. f t) v.linked.runs_same

    go : t < max_saves → (p : Phase) → s.phase t ≡ p → running p ≡ true → RunsOf (s.phase t) (s.runs t) (level s.header.sheets (s.claim t))
        → Inv (submit_save (is_first p || wide s t) s t) (cond (ltb 1 (l.runs t) && not (l.wide t)) (commit l t) (join l t)) r
    go ht unused q y a = absurd (true≢false (sym y))
    go ht first q y a = let a' : l.runs t ≡ 1 = runs_are ∙ (rw q at a) in rw a' (keeps_join s l r t v ht (rw q) (once (s.runs t) _ (rw q at a)))
    go ht submitted q y a = absurd (true≢false (sym y))
    go ht second q y a =
        let b : RunsOf second (s.runs t) (level s.header.sheets (s.claim t)) = rw q at a in
        let later : ltb 1 (l.runs t) ≡ true = lt-ltb 1 (l.runs t) (rw runs_are b.0) in
        let w : l.wide t ≡ wide s t = v.linked.wide_same t (rw q) in
        bool (wide s t)
        (λ e. rw (later, w, e) (keeps_join s l r t v ht (rw q) (omega (arith, b.0), omega (arith, b.1, level_rises s t e))))
        (λ e. rw (later, w, e) (keeps_resubmit s l r t _ v ht q e))
    go ht committed q y a = absurd (true≢false (sym y))
    go ht dropped q y a = absurd (true≢false (sym y))
keeps s l r (Take n) v e =
    let g = passed_asked (tests s (Take n)) e in
    let h = ltb-true (s.taken n) (length s.order) (g 9).0 in
    bool (next_is_last s n)
    (λ y. rw y (keeps_take s l r n v h (eqb-true (s.place (next s n)) (s.taken n) y)))
    (λ y. rw y (keeps_move_on s l r n v h (eqb-false (s.place (next s n)) (s.taken n) y)))
keeps s l r (Decide t) v e =
    let g = passed_asked (tests s (Decide t)) e in
    let ht = ltb-true t max_saves (g 4).0 in
    let u = submitted_is (s.phase t) (g 5).0 in
    bool (s.failed t)
    (λ f. rw f (keeps_decide_second s l r t v ht u (g 10).0 (g 10).1.0))
    (λ f. rw f (keeps_decide_commit s l r t v ht u (g 10).0 (g 10).1.0 f))
keeps s l r (Apply n t) v e = applied_of s l r n t v e (keeps_apply s l r n t v (passed_asked (tests s (Apply n t)) e 5).0)
keeps s l r (GiveUp t) v e = let g = passed_asked (tests s (GiveUp t)) e in keeps_give_up s l r t v (ltb-true t max_saves (g 4).0) (g 5).0

-- ---- New nodes

pub starts : (h : Header) → Inv (fresh h) no_history (λ t k. none)
unfolding fresh no_history entries storing stores fold
starts h = record {
  places = record {
    stands = λ t y. absurd (true≢false (sym y));
    claim_stands = λ t k y. absurd (true≢false (sym y));
    claim_joined = λ t k y. absurd (true≢false (sym y));
    placed = λ q o. absurd (not-suc-le-zero o);
    bound = λ n. le_refl 0;
    small = λ t y. absurd (true≢false (sym y));
  };
  copies = record {
    copied_range = λ t k e. absurd (true≢false (sym e));
    claim_range = λ t k e. absurd (true≢false (sym e));
    copied_claimed = λ t k c e. absurd (true≢false (sym e));
    written_x = λ t k c e. absurd (true≢false (sym e));
    unused_absent = λ t k e. refl;
  };
  locks = record {
    applied_over = λ n t e. absurd (true≢false (sym e));
    applied_taken = λ n t e. absurd (true≢false (sym e));
    settled = λ t u k x. absurd x;
    alone = λ t u k y. absurd (true≢false (sym y));
  };
  queues = λ k. refl;
  linked = record {
    order_same = refl;
    place_same = refl;
    claim_same = refl;
    wide_same = λ t y. absurd (true≢false (sym y));
    mark_same = refl;
    runs_same = refl;
    commit_same = λ t. refl;
    last_same = λ t k e. absurd (true≢false (sym e));
    runs_right = λ t. refl;
    unread = λ t k e. refl;
  };
  values = record {
    sheet_is = λ k. refl;
    behind = λ t k e. absurd (true≢false (sym e));
    current = λ t k e. absurd (true≢false (sym e));
    reads = λ t k e. absurd (true≢false (sym e));
  };
}

-- ---- A list of commands

pub run_accepts : (s : State) (c : Command) (cs : List Command) → check s c ≡ pass → run s (c ∷ cs) ≡ prepend (record { command = c; answer = answer s c }) (run (effect s c) cs)
unfolding run
run_accepts s c cs e = rw e

pub run_refuses : (s : State) (c : Command) (cs : List Command) (n : ℕ) → check s c ≡ refuse n → run s (c ∷ cs) ≡ record { events = []; state = s; end = refuse n }
unfolding run
run_refuses s c cs n e = rw e

-- what an accepted command keeps holds at the end of a list
pub along : (P : State → History → (ℕ → ℕ → Option ℕ) → Type 0)
    → ((s : State) (l : History) (r : ℕ → ℕ → Option ℕ) (c : Command) → P s l r → check s c ≡ pass → P (effect s c) (hear l c (says_again (answer s c))) (reads_after r c (answer s c)))
    → (cs : List Command) (s : State) (l : History) (r : ℕ → ℕ → Option ℕ) → P s l r
    → P (run s cs).state (heard l (map feed (run s cs).events)) (first_reads r (run s cs).events)
unfolding run heard first_reads
along P k [] s l r v = v
along P k (c ∷ cs) s l r v = go (check s c) refl (λ s' l' r'. along P k cs s' l' r')
  where
    go : (x : Checked) → check s c ≡ x
        → ((s' : State) (l' : History) (r' : ℕ → ℕ → Option ℕ) → P s' l' r' → P (run s' cs).state (heard l' (map feed (run s' cs).events)) (first_reads r' (run s' cs).events))
        → P (run s (c ∷ cs)).state (heard l (map feed (run s (c ∷ cs)).events)) (first_reads r (run s (c ∷ cs)).events)
    go pass e f = rw (run_accepts s c cs e) (f (effect s c) (hear l c (says_again (answer s c))) (reads_after r c (answer s c)) (k s l r c v e))
    go (refuse n) e f = rw (run_refuses s c cs n e) v

pub always : (h : Header) (cs : List Command) → Inv (after h cs) (told h cs) (first_answers h cs)
always h cs = along Inv keeps cs (fresh h) no_history (λ t k. none) (starts h)

-- ---- The header stays

submit_header : (s : State) (t : ℕ) (b : Bool) → (submit_save b s t).header ≡ s.header
submit_header s t true = refl
submit_header s t false = refl

take_header : (s : State) (n : ℕ) (b : Bool) → (take_next b s n).header ≡ s.header
take_header s n true = refl
take_header s n false = refl

decide_header : (s : State) (t : ℕ) (b : Bool) → (decide_save b s t).header ≡ s.header
decide_header s t true = refl
decide_header s t false = refl

pub same_header : (s : State) (c : Command) → (effect s c).header ≡ s.header
same_header s (Begin t) = refl
same_header s (Read t k) = refl
same_header s (Write t k v) = refl
same_header s (Submit t) = submit_header s t (is_first (s.phase t) || wide s t)
same_header s (Take n) = take_header s n (next_is_last s n)
same_header s (Decide t) = decide_header s t (s.failed t)
same_header s (Apply n t) = refl
same_header s (GiveUp t) = refl

pub header_after : (h : Header) (cs : List Command) → (after h cs).header ≡ h
unfolding fresh
header_after h cs = along (λ s l r. s.header ≡ h) (λ s l r c v _. same_header s c ∙ v) cs (fresh h) no_history (λ t k. none) refl
