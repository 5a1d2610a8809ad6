-- Sheets that receive a save's contents: one, a block's, all of a node.
use Prim.Native.Nat.{ℕ, suc, ◌+◌, ◌*◌, ◌/◌, ◌%◌, ◌^◌, ◌≤◌, ◌<◌}
use mathlib.Core.Path.{◌≡◌, refl, sym, ap, ◌∙◌}
use mathlib.Core.Bool.{Bool, true, false, not, ◌&&◌, ◌||◌, cond, and-false}
use mathlib.Core.Logic.{◌≢◌}
use mathlib.Core.List.{List}
use native.Mathlib.Omega.{arith}
use native.Mathlib.Numerals.{add-one}
use native.Mathlib.Nat.{zero-add}
use lib.ListN.{get_or, set, length-set}
use lib.Seq.{get_or-set_same, get_or-set_other}
use lib.Dec.{eqb}
use Rattle.std.specs.Int.{from_bool}
use borrow.Author.Tests.{eq-eqb, ne_eqb, lt-ltb, le-ltb}
use Rattle.rules.specs.State.{Sheet, store}
use Rattle.rules.proofs.Table.{same?, below?}
use Rattle.sets.specs.Bit.{bit, low, Rest, word, blocks}
use Rattle.sets.specs.Loop.{Over, done, of_block, before_block}
use Rattle.sets.proofs.Loops.{block_of, over_first, low_small, over_on, done_none, done_all, not_done, done_more, next_block}
use Rattle.state.specs.View.{part}
use Rattle.state.specs.Fit.{Table, Rising}
use Rattle.state.proofs.Parts.{part_in, part_past}
use Rattle.state.proofs.Rows.{common, common_at}
use Rattle.storing.specs.Carry.{sheet_in, Received, RisingIn}

-- ---- One sheet

module _ (m : ℕ) (w : List ℕ) (k v c : ℕ) (km : k < m) (fits : Table 2 m w) where
  abbrev w₁ : List ℕ
  w₁ = set w (m + k) c

  abbrev w₂ : List ℕ
  w₂ = set w₁ k v

  content_in : (l : List ℕ) (i : ℕ) → i < m → part 0 m l i ≡ get_or l i 0
  content_in l i h = part_in 0 m l i h ∙ rw (zero-add i)

  content_here : part 0 m w₂ k ≡ v
  content_here = content_in w₂ k km ∙ get_or-set_same w₁ k v 0 (rw length-set (omega arith))

  wct_here : part m m w₂ k ≡ c
  wct_here = part_in m m w₂ k km ∙ get_or-set_other w₁ k (m + k) v 0 (λ e. omega arith) ∙ get_or-set_same w (m + k) c 0 (omega arith)

  content_there : (i : ℕ) → i < m → i ≢ k → part 0 m w₂ i ≡ part 0 m w i
  content_there i h d = content_in w₂ i h ∙ get_or-set_other w₁ k i v 0 d ∙ get_or-set_other w (m + k) i c 0 (λ e. omega arith) ∙ sym (content_in w i h)

  wct_there : (i : ℕ) → i < m → i ≢ k → part m m w₂ i ≡ part m m w i
  wct_there i h d = part_in m m w₂ i h ∙ get_or-set_other w₁ k (m + i) v 0 (λ e. omega arith) ∙ get_or-set_other w (m + k) (m + i) c 0 (λ e. d (omega arith)) ∙ sym (part_in m m w i h)

-- the mark is the rules' rise
marked : (u v c : ℕ) → c + from_bool (not (eqb u v)) ≡ cond (eqb v u) c (suc c)
marked u v c = same? u v
    (λ e. rw (eq-eqb u v e, eq-eqb v u (sym e)) (omega arith))
    (λ d. rw (ne_eqb u v d, ne_eqb v u (λ e. d (sym e))) (omega arith))

-- by the code's content v and mark g
pub received_at : (m t k : ℕ) (value w : List ℕ) {v g : ℕ} → k < m → Table 2 m w → v ≡ get_or value (t * m + k) 0 → g ≡ from_bool (not (eqb (get_or w k 0) v))
    → Received m t value (λ i. eqb i k) w (set (set w (m + k) (get_or w (m + k) 0 + g)) k v)
received_at m t k value w {v} {g} km fits ev eg = record {
  long = rw (length-set, length-set);
  sheet = λ i h. same? i k
      (λ e. rw (e, eq-eqb k k refl, ← ev) (rw (content_here m w k v c km fits, wct_here m w k v c km fits, content_in m w k v c km fits w k km, part_in m m w k km, eg, marked (get_or w k 0) v (get_or w (m + k) 0))))
      (λ d. rw (ne_eqb i k d, content_there m w k v c km fits i h d, wct_there m w k v c km fits i h d));
}
  where
    c : ℕ
    c = get_or w (m + k) 0 + g

at_most_one : (b : Bool) → from_bool b ≤ 1
at_most_one true = omega arith
at_most_one false = omega arith

-- a counter with room for a mark
pub can_rise : (m k : ℕ) (w : List ℕ) {g : ℕ} (b : Bool) → k < m → part m m w k < 65535 → g ≡ from_bool b → get_or w (m + k) 0 + g < 4294967296
can_rise m k w b km h e = let z = rw (part_in m m w k km) at h in omega (arith, at_most_one b)

-- ---- None, and some and others

-- a content stored twice
store_twice : (s : Sheet) (v : ℕ) → store (store s v) v ≡ store s v
store_twice s v = rw (eq-eqb v v refl)

twice : (h g : Bool) (s : Sheet) (v : ℕ) → cond g (store (cond h (store s v) s) v) (cond h (store s v) s) ≡ cond (h || g) (store s v) s
twice true true s v = store_twice s v
twice true false s v = refl
twice false true s v = refl
twice false false s v = refl

module _ {m t : ℕ} {value : List ℕ} where
  pub received_none : {h : ℕ → Bool} (w : List ℕ) → ((k : ℕ) → k < m → h k ≡ false) → Received m t value h w w
  received_none w a = record { long = refl; sheet = λ k l. rw (a k l) }

  pub received_both : {h h₁ h₂ : ℕ → Bool} {w w₁ w₂ : List ℕ} → Received m t value h₁ w w₁ → Received m t value h₂ w₁ w₂ → ((k : ℕ) → k < m → h k ≡ (h₁ k || h₂ k)) → Received m t value h w w₂
  received_both {h} {h₁} {h₂} {w} {w₁} {w₂} a b e = record {
    long = b.long ∙ a.long;
    sheet = λ k l. let v = get_or value (t * m + k) 0 in
        rw (e k l) (b.sheet k l ∙ ap (λ (s : Sheet). cond (h₂ k) (store s v) s) (a.sheet k l) ∙ twice (h₁ k) (h₂ k) (sheet_in m w k) v);
  }

  pub received_same : {h h₁ : ℕ → Bool} {w w₁ : List ℕ} → Received m t value h₁ w w₁ → ((k : ℕ) → k < m → h k ≡ h₁ k) → Received m t value h w w₁
  received_same a e = record { long = a.long; sheet = λ k l. a.sheet k l ∙ rw (e k l) }

  -- where nothing is received the counter is as it was
  pub still : {h : ℕ → Bool} {w w₁ : List ℕ} → Received m t value h w w₁ → (k : ℕ) → h k ≡ false → part m m w₁ k ≡ part m m w k
  still {w = w} {w₁ = w₁} a k e = below? k m (λ l. ap (λ (s : Sheet). s.wct) (rw e at (a.sheet k l))) (λ l. part_past m m w₁ k l ∙ sym (part_past m m w k l))

-- ---- A block's sheets, one by one

pub record Storing (m t j ours : ℕ) (value w₀ w : List ℕ) (left : ℕ) : Type 0 where
  pub over : Over ours left
  pub got : Received m t value (of_block j (done ours left)) w₀ w

module _ {m t j ours : ℕ} {value : List ℕ} where
  pub storing_first : (w : List ℕ) → ours < 2 ^ 64 → Storing m t j ours value w w ours
  storing_first w s = record { over = over_first ours s; got = received_none w (λ k l. rw (done_none ours (k % 64)) (and-false (eqb (k / 64) j))) }

  pub storing_end : {w₀ w : List ℕ} {left : ℕ} → Storing m t j ours value w₀ w left → left ≡ 0 → Received m t value (of_block j (bit ours)) w₀ w
  storing_end g e = received_same g.got (λ k l. rw (e, done_all ours (k % 64)))

-- a turn, by the code's digit c
module _ {m t j ours : ℕ} {value w₀ w : List ℕ} {left : ℕ} (g : Storing m t j ours value w₀ w left) (some : left ≢ 0) (c : ℕ) (ec : c ≡ low left) where
  pub at_sheets : Table 2 m w₀ → Table 2 m w
  at_sheets h = rw g.got.long h

  pub rises_here : RisingIn m j w₀ → part m m w (64 * j + c) < 65535
  rises_here h = rw ec (rw (still g.got (64 * j + low left) (not_done g.over some j)) (h (64 * j + low left) (block_of j (low left) (low_small g.over some))))

  pub storing_step : {r : ℕ} {w₁ : List ℕ} → Rest left r → Received m t value (λ k. eqb k (64 * j + c)) w w₁ → Storing m t j ours value w₀ w₁ r
  storing_step e a = record { over = over_on g.over some e; got = received_both g.got (rw ec at a) (λ k _. done_more g.over some j e k) }

-- ---- Block after block: the blocks before j are done

pub record Carried (m t a b : ℕ) (s value w₀ w : List ℕ) (j : ℕ) : Type 0 where
  pub got : Received m t value (before_block j (common s a b)) w₀ w

module _ {m t a b : ℕ} {s value w₀ w : List ℕ} {j : ℕ} (g : Carried m t a b s value w₀ w j) where
  pub rises_on : Rising m w₀ → RisingIn m j w
  rises_on h k e = rw (still g.got k (rw (e, le-ltb j j (omega arith)))) (h k)

  pub carried_on : {all : ℕ} → all ≡ blocks m → j < all → (x y : ℕ) → x ≡ word s a j → y ≡ word s b j → (ours : ℕ) → ((c : ℕ) → bit ours c ≡ (bit x c && bit y c))
      → {w₁ : List ℕ} → Received m t value (of_block j (bit ours)) w w₁ → Carried m t a b s value w₀ w₁ (j + 1)
  carried_on en jn x y ex ey ours eo r = rw (add-one j) record {
    got = received_both g.got r (λ k _. next_block (common s a b) (bit ours) j k (λ e. common_at m s en jn a b x y ex ey k e ∙ sym (eo (k % 64))));
  }

  pub carried_end : {all : ℕ} → all ≡ blocks m → all ≤ j → Received m t value (common s a b) w₀ w
  carried_end en h = received_same g.got (λ k l. rw (lt-ltb (k / 64) j (omega arith)))
