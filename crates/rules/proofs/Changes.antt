-- A WCT is the count of the changes, in every state; the rest is from the invariant: level copies, and what an APPLY stores over.
use Prim.Native.Nat.{ℕ, ◌+◌, ◌≤◌}
use mathlib.Core.Path.{◌≡◌, refl, sym, ap, ◌∙◌}
use mathlib.Core.Bool.{Bool, true, false, ◌&&◌, ◌||◌, not, cond}
use mathlib.Core.List.{List, [], ◌∷◌}
use mathlib.Core.Option.{Option, some}
use native.Mathlib.Omega.{arith}
use lib.Dec.{eqb}
use borrow.Author.Tests.{eqb-true, eq-eqb}
use Rattle.rules.specs.Bytes.{Header, header, Command, Begin, Read, Write, Submit, Take, Decide, Apply, GiveUp}
use Rattle.rules.specs.State.{Sheet, store, State, fresh, is_first, is_committed, is_written, claims, is_x, wide, at}
use Rattle.rules.specs.Steps.{owns, next_is_last, check, Checked, pass, refuse, receives, submit_save, take_next, decide_save, effect, accepted, answered, refused, step_by, run}
use Rattle.rules.specs.Serial.{History}
use Rattle.rules.specs.Demand3.{after, told, first_answers, one_if_accepted, session_commands}
use Rattle.rules.specs.Changes.{changes, commands_of, OnlyChanges, SessionChanges}
use Rattle.rules.proofs.Table.{same?, clash, and_l, and_r}
use Rattle.rules.proofs.Storing.{store_adds}
use Rattle.rules.proofs.Invariant.{Stands, Sure, Inv}
use Rattle.rules.proofs.Phases.{committed_locked, committed_placed, committed_closed, x_claims, written_copied, sheet_shown}
use Rattle.rules.proofs.Accepted.{applied_of, always, run_accepts, run_refuses}
use Rattle.rules.proofs.Serializable.{committed_sure}

-- ---- One command

-- a sheet before and after: the WCT has risen by 1 where the content is another, and else stayed
abbrev Counted : Sheet → Sheet → Type 0
Counted c d = d.wct ≡ c.wct + cond (not (eqb d.content c.content)) 1 0

left_alone : (c : Sheet) → Counted c c
left_alone c = rw (eq-eqb c.content c.content refl) (omega arith)

stored_if : (c : Sheet) (v : ℕ) (g : Bool) → Counted c (cond g (store c v) c)
stored_if c v true = store_adds c v
stored_if c v false = left_alone c

module _ (s : State) (k : ℕ) where
  submit_counts : (t : ℕ) (b : Bool) → Counted (s.sheet k) ((submit_save b s t).sheet k)
  submit_counts t true = left_alone (s.sheet k)
  submit_counts t false = left_alone (s.sheet k)

  take_counts : (n : ℕ) (b : Bool) → Counted (s.sheet k) ((take_next b s n).sheet k)
  take_counts n true = left_alone (s.sheet k)
  take_counts n false = left_alone (s.sheet k)

  decide_counts : (t : ℕ) (b : Bool) → Counted (s.sheet k) ((decide_save b s t).sheet k)
  decide_counts t true = left_alone (s.sheet k)
  decide_counts t false = left_alone (s.sheet k)

  effect_counts : (c : Command) → Counted (s.sheet k) ((effect s c).sheet k)
  effect_counts (Begin t) = left_alone (s.sheet k)
  effect_counts (Read t l) = left_alone (s.sheet k)
  effect_counts (Write t l v) = left_alone (s.sheet k)
  effect_counts (Submit t) = submit_counts t (is_first (s.phase t) || wide s t)
  effect_counts (Take n) = take_counts n (next_is_last s n)
  effect_counts (Decide t) = decide_counts t (s.failed t)
  effect_counts (Apply n t) = stored_if (s.sheet k) (s.copy t k).content (receives s n t k)
  effect_counts (GiveUp t) = left_alone (s.sheet k)

-- ---- A list of commands

-- from state s the WCT of sheet k rises by the changes
abbrev CountsOn : List Command → State → ℕ → Type 0
CountsOn cs s k = ((run s cs).state.sheet k).wct ≡ (s.sheet k).wct + changes s (commands_of (run s cs).events) k

counts_on : (cs : List Command) (s : State) (k : ℕ) → CountsOn cs s k
unfolding run changes
counts_on [] s k = omega arith
counts_on (c ∷ cs) s k = go (check s c) refl (counts_on cs)
  where
    go : (x : Checked) → check s c ≡ x → ((s' : State) (k : ℕ) → CountsOn cs s' k) → CountsOn (c ∷ cs) s k
    go pass e f = rw (run_accepts s c cs e, e) (omega (arith, f (effect s c) k, effect_counts s k c))
    go (refuse n) e f = rw (run_refuses s c cs n e) (omega arith)

-- ---- Where an APPLY stores

module _ (s : State) (l : History) (r : ℕ → ℕ → Option ℕ) (v : Inv s l r) (n t k : ℕ) (fresh : l.applied n t ≡ false) (g : receives s n t k ≡ true) where
  abbrev own : ℕ
  own = s.header.owner k

  here : own ≡ n
  here = eqb-true own n (and_l (owns s n k) (is_committed (s.phase t) && is_written (s.mark t k)) g)

  both : is_committed (s.phase t) && is_written (s.mark t k) ≡ true
  both = and_r (owns s n k) (is_committed (s.phase t) && is_written (s.mark t k)) g

  done : is_committed (s.phase t) ≡ true
  done = and_l (is_committed (s.phase t)) (is_written (s.mark t k)) both

  wrote : is_written (s.mark t k) ≡ true
  wrote = and_r (is_committed (s.phase t)) (is_written (s.mark t k)) both

  claimed : claims (s.claim t k) ≡ true
  claimed = x_claims (s.claim t k) (v.copies.written_x t k (committed_closed (s.phase t) done) wrote)

  stands : (u : ℕ) → is_committed (s.phase u) ≡ true → Stands s.order s.place u
  stands u c = v.places.stands u (committed_placed (s.phase u) c)

  -- a later X waits for t
  not_yet : (u : ℕ) → s.place t ≤ s.place u → is_committed (s.phase u) ≡ true → is_x (s.claim u k) ≡ true → l.applied own u ≡ false
  not_yet u o c x = same? (s.place u) (s.place t)
      (λ z. rw (sym (stands u c).1 ∙ ap (at s.order) z ∙ (stands t done).1, here) fresh)
      (λ z. clash (l.applied own t) (v.locks.alone u t k (committed_locked (s.phase u) c) x (omega arith) claimed) (rw here fresh))

  sure : Sure (s.phase t) (s.failed t) (s.place t) (s.taken own)
  sure = committed_sure (s.phase t) (s.failed t) (s.place t) (s.taken own) done

  -- the sheet is as the serial run shows it to t, and so is what t read
  read_there : r t k ≡ some (s.sheet k).content
  read_there = v.values.reads t k (written_copied (s.mark t k) wrote) claimed sure
      ∙ ap (λ c. some c.content) (sym (sheet_shown s l.applied r (s.place t) k v.copies v.values (omega (arith, (stands t done).0))
      (λ u o _ x. v.locks.settled t u k sure claimed o x) not_yet))

module _ (h : Header) (cs : List Command) (n t k : ℕ) where
  abbrev s : State
  s = after h cs

  not_answered : {x : ℕ} → refused x ≡ answered accepted → ⊥
  not_answered q = let z : ◌≡◌ {A = ℕ} 0 1 = ap one_if_accepted q in omega arith

  stored_by : (x : Checked) → check s (Apply n t) ≡ x → (step_by x s (Apply n t)).result ≡ answered accepted → receives s n t k ≡ true
      → first_answers h cs t k ≡ some (s.sheet k).content
  stored_by pass e _ g = let v = always h cs in
      applied_of s (told h cs) (first_answers h cs) n t v e (λ _ _ f. read_there s (told h cs) (first_answers h cs) v n t k f g)
  stored_by (refuse x) e q g = absurd (not_answered q)

pub only_changes : (h : Header) (cs : List Command) → OnlyChanges h cs
unfolding fresh
only_changes h cs = record {
  counts = λ k. omega (arith, counts_on cs (fresh h) k);
  level = (always h cs).values.current;
  over_reading = λ n t k. stored_by h cs n t k (check (after h cs) (Apply n t)) refl;
}

pub session_changes : (b : List ℕ) → SessionChanges b
session_changes b _ = only_changes (header b) (session_commands b)
