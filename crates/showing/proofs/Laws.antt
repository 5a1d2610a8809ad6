-- Letters and lines by what the slices have, and the text of the state that they show.
use Prim.Native.Nat.{ℕ, ◌+◌, ◌≤◌, ◌<◌}
use mathlib.Core.Path.{◌≡◌, refl, sym, ◌∙◌}
use mathlib.Core.Bool.{Bool, true, false, ◌&&◌}
use mathlib.Core.Logic.{◌≢◌}
use mathlib.Core.List.{List, [], ◌∷◌, ◌++◌}
use native.Mathlib.Omega.{arith}
use borrow.Author.Tests.{ne_eqb, eq-eqb, lt-ltb, le-ltb, ltb-true}
use lib.ListN.{length, get_or, length-drop}
use lib.Seq.{get_or-take, get_or-drop, length-take-le}
use lib.Dec.{eqb}
use Rattle.rules.specs.State.{State, Tally, is_second, at}
use Rattle.rules.specs.Report.{rows, state_lines}
use Rattle.rules.specs.Showing.{has_place, save_head, save_marks, place_field, save_line, save_text, order_line_of, order_line, save_lines, order_lines, node_lines, holding_line, holding_lines, entry_line, queue_lines, state_text}
use Rattle.rules.proofs.Table.{and_l}
use Rattle.text.specs.declared.Writer.{Writer}
use Rattle.text.specs.Writes.{Writes}
use Rattle.text.proofs.Writing.{writes_then}
use Rattle.clipped.proofs.Laws.{writes_within}
use Rattle.state.specs.Slices.{slices}
use Rattle.state.specs.declared.Session.{Session}
use Rattle.state.specs.View.{as_phase, set?, part, placed, place_in, order_in, shown, shown_by, bare, PHASE, FAILED, RUNS, PLACE, ORDER, TAKEN}
use Rattle.state.specs.Fit.{ReadyIn}
use Rattle.state.proofs.Codes.{second_code, unused_code}
use Rattle.state.proofs.Known.{taken_few}
use Rattle.state.proofs.Parts.{part_in}
use Rattle.submits.specs.Wide.{wide_in}
use Rattle.rows.specs.Rows.{Ordered}
use Rattle.rows.proofs.Lines.{ordered}
use Rattle.holdings.specs.Held.{held_by}
use Rattle.showing.specs.Shows.{Marked, Numbered, unstored, numbered_by}

-- ---- What is kept and known

pub marked : {x : Session} → ReadyIn x → Marked x
marked r = record {
  bytes = let a = r.kept.sized.bytes in omega arith;
  few = r.known.sheets16;
  reach = r.kept.sized.sets;
  sets = r.kept.sets;
}

pub numbered : {x : Session} → ReadyIn x → Numbered x
numbered {x} r = record {
  ordered = ordered r;
  fits = r.kept.sized.fits;
  takens = λ n h. rw (part_in TAKEN 8 x.queues.now n h) at (taken_few r n h);
  nodes = r.known.nodes8;
}

-- ---- A save's line

-- it is in a later run
pub later_is : (b : List ℕ) (t : ℕ) → t < 32 → is_second (as_phase (part PHASE 32 b t)) ≡ eqb (get_or b (PHASE + t) 0) 3
later_is b t h = rw (part_in PHASE 32 b t h) (second_code (get_or b (PHASE + t) 0))

module _ (m : ℕ) (b s : List ℕ) (t : ℕ) (h : t < 32) {p : ℕ} (ep : p ≡ get_or b (PHASE + t) 0) where
  phase_is : part PHASE 32 b t ≡ p
  phase_is = part_in PHASE 32 b t h ∙ sym ep

  module _ (q : List ℕ) where
    abbrev st : State
    st = bare m b s q

    pub unused_text : p ≡ 0 → save_text st t ≡ []
    unused_text e = rw (phase_is, unused_code p, eq-eqb p 0 e)

    pub save_is : {w x y z v : Writer} → p ≢ 0 → Writes w x (save_head t (as_phase p) (get_or b (RUNS + t) 0)) 25
        → Writes x y (save_marks (set? (part FAILED 32 b t)) (is_second (as_phase (part PHASE 32 b t)) && wide_in m s t)) 4
        → Writes y z (place_field (has_place (bare 0 b [] q) t) (place_in q t)) 11 → Writes z v (10 ∷ []) 1 → Writes w v (save_text st t) 41
    unfolding save_line
    save_is n a k c e =
        writes_within (rw (phase_is, unused_code p, ne_eqb p 0 n, part_in RUNS 32 b t h)) (omega arith) (writes_then (writes_then (writes_then a (rw phase_is at k)) c) e)

-- ---- Places

module _ {b q : List ℕ} (o : Ordered b q) where
  abbrev places : State
  places = bare 0 b [] q

  pub order_length : length places.order ≡ placed q
  order_length = length-take-le (placed q) (order_in b) (rw (length-drop ORDER b) (let a = o.bytes in omega arith))

  order_at : (p : ℕ) → p < placed q → at places.order p ≡ get_or b (ORDER + p) 0
  order_at p l = get_or-take (placed q) (order_in b) p 0 l ∙ get_or-drop ORDER b p 0

  pub save_small : (p : ℕ) → p < placed q → get_or b (ORDER + p) 0 < 32
  save_small p l = rw (get_or-drop ORDER b p 0) at (o.small p l)

  module _ (t : ℕ) (h : t < 32) {p : ℕ} (ep : p ≡ get_or q (PLACE + t) 0) where
    place_is : place_in q t ≡ p
    place_is = part_in PLACE 32 q t h ∙ sym ep

    pub no_place : placed q ≤ p → false ≡ has_place places t
    no_place l = sym (rw (place_is, order_length, le-ltb p (placed q) l))

    pub some_place : p < placed q → eqb (get_or b (ORDER + p) 0) t ≡ has_place places t
    some_place l = sym (rw (place_is, order_length, lt-ltb p (placed q) l, order_at p l))

    -- it is one of the order's
    pub place_small : {h : Bool} → h ≡ has_place places t → h ≡ true → p < placed q
    place_small eh y =
        let z = and_l _ _ (sym eh ∙ y) in
        rw (order_length, place_is) at (ltb-true (place_in q t) (length places.order) z)

  -- the line of place p, of save t
  pub order_is : (p : ℕ) {t : ℕ} → p < placed q → t ≡ get_or b (ORDER + p) 0 → order_line_of p t (eqb (place_in q t) p) ≡ order_line places p
  order_is p l et = rw (order_at p l, et)

-- ---- The text

module _ (x : Session) (tally : Tally) where
  pub all_lines :
      state_lines (shown x.m (slices x.bytes.now [] x.queues.now [] [] x.sheets.now) tally) ++ save_lines (unstored x) ++ order_lines (numbered_by x) ++ node_lines (numbered_by x)
      ++ holding_lines (held_by x) ++ queue_lines (unstored x)
      ≡ state_text (shown_by x tally)
  unfolding rows state_lines save_line save_lines order_lines node_lines holding_line holding_lines entry_line queue_lines state_text
  all_lines = refl
