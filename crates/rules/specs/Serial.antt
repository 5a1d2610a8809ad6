-- "The serial run": a function of the accepted commands and DECIDE's answers. Of the header nothing is needed, a sheet being a number whoever owns it.
use Rattle.std.specs.Prelude.{ℕ, suc, Bool, true, false, not, ◌&&◌, ◌||◌, cond, length, ltb}
use mathlib.Core.List.{List, [], ◌∷◌, ◌++◌, foldl}
use Rattle.std.proofs.Math.Option.{Option, none, some}
use Rattle.rules.specs.Table.{upd, upd2, row}
use Rattle.rules.specs.Bytes.{Command, Begin, Read, Write, Submit, Take, Decide, Apply, GiveUp}
use Rattle.rules.specs.State.{Sheet, new_sheet, store, Mark, absent, written, Claim, unclaimed, is_written, wider, joined_claim, by_last}
use Rattle.rules.specs.Steps.{read_mark, Answer, accepted, content_is, took, commits, second_run, Event}

-- ---- What the serial run is fed

-- An accepted command, and whether it is a DECIDE that answered with the second run.
pub record Fed : Type 0 where
  pub command : Command
  pub again : Bool

abbrev pub says_again : Answer → Bool
says_again accepted = false
says_again (content_is v) = false
says_again (took t v) = false
says_again commits = false
says_again second_run = true

abbrev pub feed : Event → Fed
feed e = record { command = e.command; again = says_again e.answer }

-- ---- What the commands say by themselves

-- what the serial run needs to know of each save
pub record History : Type 0 where
  pub order : List ℕ  -- the places: the saves by SUBMIT of a first or a wide run
  pub place : ℕ → ℕ  -- the last place
  pub committed : ℕ → Bool  -- by a DECIDE that answers so or by a later run's SUBMIT that is not wide
  pub runs : ℕ → ℕ  -- runs entered: by BEGIN and by each DECIDE that answers with the second run
  pub claim : ℕ → ℕ → Claim  -- save, sheet: joined at each place from the marks
  pub wide : ℕ → Bool  -- a READ or WRITE of the last run went beyond the claim
  pub mark : ℕ → ℕ → Mark  -- save, sheet: READ, or written, in the last run
  pub last : ℕ → ℕ → ℕ  -- save, sheet: the content last written
  pub applied : ℕ → ℕ → Bool  -- node, save: its APPLY was accepted there

unfoldable pub no_history : History
no_history = record { order = []; place = λ t. 0; committed = λ t. false; runs = λ t. 0; claim = λ t k. unclaimed; wide = λ t. false; mark = λ t k. absent; last = λ t k. 0; applied = λ n t. false }

abbrev pub enters : History → ℕ → History
enters h t = record {
  order = h.order;
  place = h.place;
  committed = h.committed;
  runs = upd h.runs t (suc (h.runs t));
  claim = h.claim;
  wide = upd h.wide t false;
  mark = row h.mark t (λ k. absent);
  last = h.last;
  applied = h.applied;
}

abbrev pub commit : History → ℕ → History
commit h t = record {
  order = h.order;
  place = h.place;
  committed = upd h.committed t true;
  runs = h.runs;
  claim = h.claim;
  wide = h.wide;
  mark = h.mark;
  last = h.last;
  applied = h.applied;
}

abbrev pub join : History → ℕ → History
join h t = record {
  order = h.order ++ t ∷ [];
  place = upd h.place t (length h.order);
  committed = h.committed;
  runs = h.runs;
  claim = joined_claim h.claim h.mark t;
  wide = h.wide;
  mark = h.mark;
  last = h.last;
  applied = h.applied;
}

-- save t's mark of sheet k becomes m
abbrev pub touch : History → ℕ → ℕ → Mark → (ℕ → ℕ → ℕ) → History
touch h t k m last = record {
  order = h.order;
  place = h.place;
  committed = h.committed;
  runs = h.runs;
  claim = h.claim;
  wide = upd h.wide t (h.wide t || wider (h.claim t k) m);
  mark = upd2 h.mark t k m;
  last = last;
  applied = h.applied;
}

abbrev pub carry_out : History → ℕ → ℕ → History
carry_out h n t = record {
  order = h.order;
  place = h.place;
  committed = h.committed;
  runs = h.runs;
  claim = h.claim;
  wide = h.wide;
  mark = h.mark;
  last = h.last;
  applied = upd2 h.applied n t true;
}

abbrev pub hear : History → Command → (again : Bool) → History
hear h (Begin t) a = enters h t
hear h (Read t k) a = touch h t k (read_mark (h.mark t k)) h.last
hear h (Write t k v) a = touch h t k written (upd2 h.last t k v)
hear h (Submit t) a = cond (ltb 1 (h.runs t) && not (h.wide t)) (commit h t) (join h t)
hear h (Take n) a = h
hear h (Decide t) a = cond a (enters h t) (commit h t)
hear h (Apply n t) a = carry_out h n t
hear h (GiveUp t) a = h

unfoldable pub heard : History → List Fed → History
heard h [] = h
heard h (f ∷ fs) = heard (hear h f.command f.again) fs

abbrev pub history : List Fed → History
history fs = heard no_history fs

-- ---- The serial run

-- Save t's turn at sheet k: a sheet written in the last run of a committed save gets the content last written to it.
abbrev pub turn : History → ℕ → Sheet → ℕ → Sheet
turn h k s t = cond (h.committed t && is_written (h.mark t k)) (store s (h.last t k)) s

-- Sheet k after the turns of a list of saves, from content and WCT 0.
unfoldable pub turns : History → ℕ → List ℕ → Sheet
turns h k saves = foldl (turn h k) new_sheet saves

-- what save t's first READ of sheet k meets
abbrev pub serial_shows : List Fed → (t k : ℕ) → ℕ
serial_shows fs t k = (turns (history fs) k (by_last (history fs).order (history fs).place ((history fs).place t))).content

-- what the serial run leaves of sheet k
abbrev pub serial_leaves : List Fed → (k : ℕ) → Sheet
serial_leaves fs k = turns (history fs) k (by_last (history fs).order (history fs).place (length (history fs).order))

-- ---- What the READs were answered

-- Save t's first READ of sheet k in its last run: what it answered, if there was one.
abbrev pub first_answer : Option ℕ → Answer → Option ℕ
first_answer (some v) a = some v
first_answer none accepted = none
first_answer none (content_is v) = some v
first_answer none (took t v) = none
first_answer none commits = none
first_answer none second_run = none

abbrev pub reads_after : (ℕ → ℕ → Option ℕ) → Command → Answer → ℕ → ℕ → Option ℕ
reads_after r (Begin t) a = row r t (λ k. none)
reads_after r (Read t k) a = upd2 r t k (first_answer (r t k) a)
reads_after r (Write t k v) a = r
reads_after r (Submit t) a = r
reads_after r (Take n) a = r
reads_after r (Decide t) a = cond (says_again a) (row r t (λ k. none)) r
reads_after r (Apply n t) a = r
reads_after r (GiveUp t) a = r

unfoldable pub first_reads : (ℕ → ℕ → Option ℕ) → List Event → ℕ → ℕ → Option ℕ
first_reads r [] = r
first_reads r (e ∷ es) = first_reads (reads_after r e.command e.answer) es
