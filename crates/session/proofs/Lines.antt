-- The report of a walk: the state's lines and the stop's, in a buffer that has room.
use Prim.Native.Nat.{ℕ, ◌+◌, ◌*◌, ◌≤◌, ◌<◌}
use mathlib.Core.Path.{◌≡◌, refl, sym, ap, ◌∙◌}
use mathlib.Core.Bool.{true}
use mathlib.Core.List.{List, []}
use native.Mathlib.Omega.{arith}
use borrow.Author.Tests.{lt-ltb, le-ltb}
use lib.ListN.{length}
use Rattle.rules.specs.Sizes.{max_session, min_buffer}
use Rattle.rules.specs.Bytes.{opens}
use Rattle.rules.specs.Report.{rows, state_lines, stop_line, report, Filled, report_call}
use Rattle.rules.proofs.Sessions.{report_final}
use Rattle.wire.proofs.Headers.{opens_has}
use Rattle.state.specs.Slices.{Slices, slices}
use Rattle.state.specs.View.{shown}
use Rattle.state.specs.Fit.{Ready}
use Rattle.state.proofs.Known.{small}
use Rattle.rows.specs.Rows.{Ordered}
use Rattle.tally.specs.Figures.{figures}
use Rattle.text.specs.Wrote.{Wrote}
use Rattle.text.proofs.Writing.{wrote_next, wrote_front, wrote_end}
use Rattle.std.specs.Prelude.{Result, Ok, Err, Option}
use Rattle.refusals.specs.declared.Refused.{Refused}
use Rattle.session.specs.declared.Walked.{Walked}
use Rattle.session.specs.declared.Ended.{Ended}
use Rattle.session.specs.declared.Reply.{Reply}
use Rattle.session.specs.Meaning as own
use Rattle.session.specs.Meaning.{stop_at, reply_in}
use Rattle.session.specs.Carried.{Within, Carried, filled, lines_of, ShownOf, Answered}

within_less : (n m : ℕ) (s : Result Unit Refused) → n ≤ m → Within n s → Within m s
within_less n m (Ok _) l w = tt
within_less n m (Err r) l w = omega arith

-- the rules' line, which does not have the bytes shown
rules_line : (b : List ℕ) (s : Result Unit Refused) → stop_line (stop_at b s) ≡ own.stop_line s
unfolding stop_line
rules_line b (Ok _) = refl
rules_line b (Err r) = refl

-- ---- The buffer

module _ (m : ℕ) (b q w : List ℕ) (r : Walked) {l : List ℕ} where
  pub too_short : length l < min_buffer → ◌≡◌ {A = Filled} (record { size = 0; buffer = l }) (filled (lines_of m b q w r) l)
  too_short h = rw (lt-ltb (length l) min_buffer h)

  module _ {k n : List ℕ} {e z : ℕ} (h : min_buffer ≤ length l) (small : 891 + 35 * m ≤ min_buffer)
      (p : Wrote l 0 (state_lines (shown m (slices b [] q [] [] w) (figures r.tally))) (867 + 35 * m) e k) (o : Wrote k e (own.stop_line r.stop) 24 z n) where
    both : Wrote l 0 (lines_of m b q w r) (891 + 35 * m) z n
    both = wrote_next refl (omega arith) p o

    pub written : ◌≡◌ {A = Filled} (record { size = z; buffer = n }) (filled (lines_of m b q w r) l)
    written = wrote_front both (omega arith) ∙ rw (le-ltb (length l) min_buffer h)

    pub inside : z ≤ length l
    inside = omega (arith, wrote_end both)

-- ---- The report, as the rules have it

module _ {b : List ℕ} (o : opens b ≡ true) {m : ℕ} {x : Slices} {r : Walked} (v : Carried b m x r) where
  text_is : lines_of m x.bytes x.queues x.sheets r ≡ report b
  unfolding rows state_lines
  text_is = sym (report_final b o ∙ rw (v.same, rules_line b r.stop))

  pub reported : (l : List ℕ) {n : List ℕ} {z : ℕ} → ◌≡◌ {A = Filled} (record { size = z; buffer = n }) (filled (lines_of m x.bytes x.queues x.sheets r) l) → ◌≡◌ {A = Filled} (record { size = z; buffer = n }) (report_call b l)
  unfolding report_call
  reported l e = e ∙ ap (λ t. filled t l) text_is

  pub stop_near : Within max_session r.stop
  stop_near = within_less (length b) max_session r.stop (opens_has b o).0.size v.within

  pub answered : {e : Ended} {l : Option Reply} → e.last ≡ l → l ≡ reply_in r.last → e.stop ≡ r.stop → ShownOf b r.stop e.shown → Answered b e
  answered ea el es sh = rw (ea, el, es) record { stops = ap (λ f. f.stop) v.same; shown = sh; replies = ap (λ f. f.last) v.same; within = v.within; near = v.near }

-- the order that the lines show
pub ordered : {m : ℕ} {b s q : List ℕ} → Ready m b s q → Ordered b q
ordered r = record { bytes = let z = r.kept.sized.bytes in let f = r.kept.sized.fits in omega arith; numbers = let z = r.kept.sized.queues in omega arith; small = small r }
