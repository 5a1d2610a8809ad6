-- Bytes that do not fit, and texts that are made elsewhere first.
use mathlib.Core.Path.{◌≡◌, refl, sym, ap, ◌∙◌}
use mathlib.Core.List.{List, [], ◌∷◌, ◌++◌}
use Prim.Native.Nat.{ℕ, suc, ◌+◌, ◌≤◌, ◌<◌}
use native.Mathlib.Numerals.{add-one}
use native.Mathlib.Omega.{arith}
use lib.ListN.{length, get_or, set, take, drop, length-drop}
use lib.Seq.{sets, set_out, take-suc, take-append_seam}
use Rattle.std.proofs.lemmas.List.{take-append-drop}
use Rattle.rules.specs.Report.{Filled, field}
use Rattle.text.specs.Wrote.{Wrote}
use Rattle.text.specs.declared.Writer.{Writer}
use Rattle.text.specs.Writes.{Writes}
use Rattle.text.proofs.Writing.{wrote_as, wrote_next, wrote_front}

sets_past : (l : List ℕ) (a : ℕ) (x : List ℕ) → length l ≤ a → sets l a x ≡ l
sets_past l a [] h = refl
sets_past l a (b ∷ x) h = rw (set_out l a b h) (sets_past l (suc a) x (omega arith))

-- no byte changes
pub past_end : {l x : List ℕ} {a b : ℕ} → b ≡ a + length x → length l ≤ a → Wrote l a x (length x) b l
past_end {l} {x} {a} {b} e h = record { ends = e; bytes = sym (sets_past l a x h); short = omega arith }

-- nor of a field, of which only the size is asked
pub field_past : {l : List ℕ} {a z : ℕ} (n : ℕ) → z ≡ length (field n) → z ≤ 11 → length l ≤ a → Wrote l a (field n) 11 (a + z) l
field_past {l} {a} {z} n e s h = record { ends = omega arith; bytes = sym (sets_past l a (field n) h); short = omega arith }

one_more : (t : List ℕ) (i : ℕ) → i < length t → take i t ++ get_or t i 0 ∷ [] ≡ take (i + 1) t
one_more t i h = rw (add-one i) (sym (take-suc t i 0 h))

-- ---- The bytes of a text from a on, when i of them are written

module _ (a i : ℕ) where
  pub one_stored : {l m : List ℕ} (t : List ℕ) → i < length t → Wrote l a (take i t) i (a + i) m → Wrote l a (take (i + 1) t) (i + 1) (a + (i + 1)) (set m (a + i) (get_or t i 0))
  one_stored {l} {m} t h w =
      let q : Wrote m (a + i) (get_or t i 0 ∷ []) 1 (a + (i + 1)) (set m (a + i) (get_or t i 0)) = record { ends = omega arith; bytes = refl; short = omega arith } in
      wrote_next (one_more t i h) (omega arith) w q

  rest : {m : List ℕ} (x : List ℕ) → (0 < length x → length m ≤ a + i) → Wrote m (a + i) x (length x) (a + i + length x) m
  rest [] h = record { ends = refl; bytes = refl; short = omega arith }
  rest (b ∷ x) h = past_end refl (h (omega arith))

  -- there are no more, or no room is left
  pub cut_off : {l m : List ℕ} (t : List ℕ) → i ≤ length t → (i < length t → length m ≤ a + i) → Wrote l a (take i t) i (a + i) m → Wrote l a t (length t) (a + length t) m
  cut_off {l} {m} t k h w =
      let d = length-drop i t in
      let s : a + i + length (drop i t) ≡ a + length t = omega arith in
      let r : Wrote m (a + i) (drop i t) (length (drop i t)) (a + length t) m = rw s at (rest (drop i t) (λ z. h (omega arith))) in
      wrote_next (take-append-drop i t) (omega arith) w r

-- ---- Texts that are made elsewhere first

-- a text at the front of a buffer with room for it is what its end cuts off
pub front_of : {l m x : List ℕ} {e u : ℕ} → Wrote l 0 x u e m → u ≤ length l → take e m ≡ x
front_of {l} {m} {x} {e} {u} w h =
    let f = wrote_front w h in
    ap (λ (q : Filled). take q.size q.buffer) f ∙ take-append_seam x _

pub writes_front : {w v : Writer} {x : List ℕ} {u : ℕ} → Writes w v x u → w.at ≡ 0 → u ≤ length w.buf.now → take v.at v.buf.now ≡ x
writes_front {w} {v} {x} {u} p z h = front_of (rw z at p.wrote) h

-- and copied from there it is the same text
pub copied : {l m r s x y : List ℕ} {e u a z : ℕ} → Wrote l 0 x u e m → u ≤ length l → Wrote r a y (length y) z s → y ≡ take e m → Wrote r a x u z s
copied w h p e = wrote_as (e ∙ front_of w h) w.short p

-- the same text under another name, in more room
pub wrote_within : {l m x y : List ℕ} {a b u v : ℕ} → x ≡ y → u ≤ v → Wrote l a x u b m → Wrote l a y v b m
wrote_within {l} {m} {x} {y} {a} {b} {u} {v} e h p = wrote_as e (omega (arith, ap length e, p.short)) p

pub writes_within : {w z : Writer} {x y : List ℕ} {u v : ℕ} → x ≡ y → u ≤ v → Writes w z x u → Writes w z y v
writes_within e h p = record { same = p.same; long = p.long; wrote = wrote_within e h p.wrote }
