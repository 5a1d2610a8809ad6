-- A text in a room that it fits or not, and the state of a walk.
use Prim.Native.Nat.{ℕ, ◌≤◌}
use mathlib.Core.Path.{◌≡◌, refl, sym, ap, ◌∙◌}
use mathlib.Core.Bool.{true, true≢false}
use mathlib.Core.List.{List}
use native.Mathlib.Omega.{arith}
use borrow.Author.Tests.{le-ltb}
use lib.ListN.{length}
use Rattle.rules.specs.Sizes.{max_sheets, max_state}
use Rattle.rules.specs.Bytes.{opens}
use Rattle.rules.specs.Report.{Filled}
use Rattle.rules.specs.Writing as lists
use Rattle.rules.specs.Showing.{state_text, state_call}
use Rattle.rules.proofs.Sessions.{Final, final}
use Rattle.text.specs.Wrote.{Wrote}
use Rattle.text.proofs.Writing.{wrote_as, wrote_front}
use Rattle.state.specs.declared.Session.{Session}
use Rattle.state.specs.View.{tables, shown_by}
use Rattle.tally.specs.Figures.{figures}
use Rattle.session.specs.declared.Walked.{Walked}
use Rattle.session.specs.Carried.{Carried}
use Rattle.showing.specs.Shows.{Shows, text_room}
use Rattle.std.specs.Prelude.{None}
use Rattle.wire.specs.Meaning.{opened}
use Rattle.wire.proofs.Opening.{unopened}
use Rattle.codes.specs.Codes.{coded, told_call, fitted}
use Rattle.codes.specs.Decoding.{outcome_in}
use Rattle.codes.proofs.Laws.{length_is}
use Rattle.states.specs.Short.{ShortText}

-- ---- The room

pub fits : {l m x room after : List ℕ} {n u v e : ℕ} → Wrote l 0 x u n m → n ≤ length room → Wrote room 0 x v e after → record { outcome = lists.wrote e; room = after } ≡ fitted x room
fits {x = x} {room = room} w h p =
    let q = length_is w in
    let f = wrote_front (wrote_as refl (omega arith) p) (let z : length x ≤ length room = omega (arith, q, h) in z) in
    rw (le-ltb (length room) (length x) (omega (arith, q, h))) (ap (λ (r : Filled). record { outcome = lists.wrote r.size; room = r.buffer }) f)

-- in so much room any text fits
pub fits_all : (m : ℕ) {x room after : List ℕ} {e : ℕ} → m ≤ max_sheets → max_state ≤ length room → Wrote room 0 x (text_room m) e after → record { outcome = lists.wrote e; room = after } ≡ fitted x room
fits_all m h k p = let q = length_is p in fits p (omega (arith, q, p.short)) p

-- no text is longer
pub room_enough : (m : ℕ) {l k x : List ℕ} {n : ℕ} → m ≤ max_sheets → Wrote l 0 x (text_room m) n k → n ≤ max_state
room_enough m h w = omega (arith, length_is w, w.short)

pub text_short : (m : ℕ) {l k x : List ℕ} {n : ℕ} → m ≤ max_sheets → Wrote l 0 x (text_room m) n k → length x ≤ max_state
text_short m h w = omega (arith, w.short)

-- ---- The walk's state

module _ {b : List ℕ} (o : opens b ≡ true) (x : Session) {r : Walked} (v : Carried b x.m (tables x) r) where
  pub shows : x.m ≤ max_sheets → Shows x
  shows h = record { ready = v.ready; values = v.fit.value; seens = v.fit.seen; stored = v.fit.sheets; few = h }

  pub called : (room : List ℕ) → fitted (state_text (shown_by x (figures r.tally))) room ≡ state_call b room
  unfolding state_call final
  called room = sym (rw o (ap (λ f. fitted (state_text f.state) room) v.same))

  pub short_so : length (state_text (shown_by x (figures r.tally))) ≤ max_state → ShortText b
  unfolding final
  short_so h _ = rw (← ap (λ (f : Final). f.state) v.same) at h

-- ---- A session that earns refusal 1

module _ (b : List ℕ) (e : opened b ≡ None) where
  pub no_state : {room : List ℕ} {code : ℕ} → code ≡ coded 7 0 1 → (record { code = code; room = room } ≡ told_call (state_call b room)) × (outcome_in code ≡ (state_call b room).outcome)
  unfolding state_call outcome_in
  no_state k = rw (k, unopened b e) (refl, refl)

  pub no_text : ShortText b
  no_text o = absurd (true≢false (sym o ∙ unopened b e))
