-- The loop's laws: how it starts, goes on and ends.
use Prim.Native.Nat.{ℕ, suc, ◌+◌, ◌-◌}
use mathlib.Core.Path.{◌≡◌, refl, sym, ap, ◌∙◌}
use mathlib.Core.Bool.{Bool, true, false, ◌||◌}
use mathlib.Core.List.{List}
use mathlib.Core.Option.{none, some}
use native.Mathlib.Omega.{arith}
use lib.ListN.{length, drop}
use lib.Dec.{ltb}
use Rattle.rules.specs.Bytes.{header, header_size, opens, Command, Begin, Read, Write, Submit, Take, Decide, Apply, GiveUp, unknown, cut, whole, Step, ended, stopped, Reading, read_from}
use Rattle.rules.specs.State.{Tally, State, fresh, is_first, wide}
use Rattle.rules.specs.Steps.{next_is_last, check, pass, refuse, counted_commit, submit_save, take_next, decide_save, effect, answer}
use Rattle.rules.specs.Calls.{Reply, no_command, answers}
use Rattle.rules.proofs.Accepted.{same_header}
use Rattle.rules.proofs.Reached.{reached_fresh, reached_step}
use Rattle.rules.proofs.Sessions.{final, final_ends, final_accepts, final_refuses, session_final}
use Rattle.wire.specs.Meaning.{front_in}
use Rattle.wire.proofs.Headers.{opens_has}
use Rattle.wire.proofs.Rest.{at_end, at_unknown, at_cut, at_step, step_fits, has_operands}
use Rattle.session.specs.Going.{Going}

pub starts : (b : List ℕ) → opens b ≡ true → Going b (fresh (header b)) no_command (header_size b)
unfolding fresh
starts b o = record { same = refl; reached = reached_fresh (header b); header_is = refl; within = (opens_has b o).0.fits; counted = omega arith }

-- an accepted command counts one
submit_counts : (s : State) (t : ℕ) (b : Bool) → (submit_save b s t).tally.accepted ≡ suc s.tally.accepted
submit_counts s t true = refl
submit_counts s t false = refl

take_counts : (s : State) (n : ℕ) (b : Bool) → (take_next b s n).tally.accepted ≡ suc s.tally.accepted
take_counts s n true = refl
take_counts s n false = refl

commit_counts : (a : Tally) (b : Bool) → (counted_commit b a).accepted ≡ suc a.accepted
commit_counts a true = refl
commit_counts a false = refl

decide_counts : (s : State) (t : ℕ) (b : Bool) → (decide_save b s t).tally.accepted ≡ suc s.tally.accepted
decide_counts s t true = refl
decide_counts s t false = commit_counts s.tally (ltb 1 (s.runs t))

counts : (s : State) (c : Command) → (effect s c).tally.accepted ≡ suc s.tally.accepted
counts s (Begin t) = refl
counts s (Read t k) = refl
counts s (Write t k v) = refl
counts s (Submit t) = submit_counts s t (is_first (s.phase t) || wide s t)
counts s (Take n) = take_counts s n (next_is_last s n)
counts s (Decide t) = decide_counts s t (s.failed t)
counts s (Apply n t) = refl
counts s (GiveUp t) = refl

module _ (b : List ℕ) (s : State) (last : Reply) (p : ℕ) (v : Going b s last p) where
  -- ---- A whole command

  module _ (c : Command) (w : ℕ) (e : front_in (drop p b) ≡ some (whole c w)) where
    abbrev here : Step
    here = record { offset = p; size = suc w; command = c }

    abbrev on : Reading
    on = read_from 0 (p + 1 + w) (drop (p + 1 + w) b)

    pub accepted : check s c ≡ pass → Going b (effect s c) (answers (answer s c)) (p + 1 + w)
    accepted q = record {
      same = sym (final_accepts s last here on q) ∙ ap (final s last) (sym (at_step b p c w e)) ∙ v.same;
      reached = rw q at (reached_step s c v.reached);
      header_is = same_header s c ∙ v.header_is;
      within = step_fits b p c w e;
      counted = omega (arith, counts s c, v.counted, has_operands b p c w e);
    }

    pub refused : (n : ℕ) → check s c ≡ refuse n → session_final b ≡ record { state = s; stop = stopped p n (suc w); last = last }
    refused n q = sym v.same ∙ ap (final s last) (at_step b p c w e) ∙ final_refuses s last here on n q

  -- ---- The reading ends

  pub ends : front_in (drop p b) ≡ none → session_final b ≡ record { state = s; stop = ended; last = last }
  ends e = sym v.same ∙ ap (final s last) (at_end b p e) ∙ final_ends s last ended

  pub at_no_command : front_in (drop p b) ≡ some unknown → session_final b ≡ record { state = s; stop = stopped p 2 1; last = last }
  at_no_command e = sym v.same ∙ ap (final s last) (at_unknown b p e) ∙ final_ends s last (stopped p 2 1)

  pub cut_short : front_in (drop p b) ≡ some cut → session_final b ≡ record { state = s; stop = stopped p 3 (length b - p); last = last }
  cut_short e = sym v.same ∙ ap (final s last) (at_cut b p e) ∙ final_ends s last (stopped p 3 (length b - p))
