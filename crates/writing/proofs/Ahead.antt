-- Texts one after the other, where each may run ahead of itself.
use Prim.Native.Nat.{ℕ, suc, ◌+◌, ◌≤◌, ◌<◌}
use mathlib.Core.Path.{◌≡◌, refl, sym, ap, ◌∙◌}
use mathlib.Core.List.{List, [], ◌∷◌, ◌++◌}
use native.Mathlib.Nat.{add-zero, add-suc, suc-add}
use native.Mathlib.Omega.{arith}
use lib.ListN.{length, set, drop, length-append}
use lib.Seq.{sets, set-set, set_comm, set_out}
use Rattle.text.specs.declared.Writer.{Writer}
use Rattle.text.specs.Wrote.{Wrote}
use Rattle.text.specs.Writes.{Writes}
use Rattle.text.proofs.Writing.{wrote_as, wrote_then, wrote_none, wrote_length}
use Rattle.writing.specs.Ahead.{Ahead}

-- ---- Stores

set_past : (l s : List ℕ) (i k v : ℕ) → k < i → set (sets l i s) k v ≡ sets (set l k v) i s
set_past l [] i k v h = refl
set_past l (w ∷ s) i k v h = set_past (set l i w) s (suc i) k v (omega arith) ∙ ap (λ (l : List ℕ). sets l (suc i) s) (set_comm l i k w v (λ e. omega arith))

-- of stores at one place, the later ones count
sets_over : (l s t : List ℕ) (i : ℕ) → sets (sets l i s) i t ≡ sets (sets l i t) (i + length t) (drop (length t) s)
sets_over l s [] i = rw add-zero
sets_over l [] (v ∷ t) i = refl
sets_over l (w ∷ s) (v ∷ t) i =
    let once : set (sets (set l i w) (suc i) s) i v ≡ sets (set l i v) (suc i) s = set_past (set l i w) s (suc i) i v (omega arith) ∙ ap (λ (l : List ℕ). sets l (suc i) s) (set-set l i w v) in
    ap (λ (l : List ℕ). sets l (suc i) t) once ∙ sets_over (set l i v) s t (suc i) ∙ rw (add-suc, suc-add)

sets_out : (l s : List ℕ) (i : ℕ) → length l ≤ i → sets l i s ≡ l
sets_out l [] i h = refl
sets_out l (v ∷ s) i h = rw (set_out l i v h) (sets_out l s (suc i) (omega arith))

exactly : (l x : List ℕ) (a e : ℕ) → e ≡ a + length x → Wrote l a x (length x) e (sets l a x)
exactly l x a e q = record { ends = q; bytes = refl; short = omega arith }

sets_then : (l x y : List ℕ) (a e : ℕ) → e ≡ a + length x → sets (sets l a x) e y ≡ sets l a (x ++ y)
sets_then l x y a e q = (wrote_then (exactly l x a e q) (exactly (sets l a x) y e (e + length y) refl)).bytes

-- ---- Texts

pub ahead_none : (w : Writer) → Ahead w w []
ahead_none w = record { same = refl; long = refl; settled = w.buf.now; wrote = wrote_none w.buf.now w.at; spare = []; bytes = refl }

pub ahead_own : {w v : Writer} {x : List ℕ} {u : ℕ} → Writes w v x u → Ahead w v x
ahead_own {w} {v} p = record { same = p.same; long = p.long; settled = v.buf.now; wrote = wrote_as refl (omega arith) p.wrote; spare = []; bytes = refl }

-- the place goes back behind the first part of what was written
pub ahead_spread : {w v : Writer} {x : List ℕ} {u : ℕ} (y z : List ℕ) (e : ℕ) → x ≡ y ++ z → e ≡ w.at + length y → Writes w v x u → Ahead w (record { buf = v.buf; at = e }) y
ahead_spread {w} {v} {x} y z e q n p =
    record {
      same = p.same;
      long = p.long;
      settled = sets w.buf.now w.at y;
      wrote = exactly w.buf.now y w.at e n;
      spare = z;
      bytes = p.wrote.bytes ∙ rw q (sym (sets_then w.buf.now y z w.at e n));
    }

pub ahead_then : {w v u : Writer} {x y : List ℕ} → Ahead w v x → Ahead v u y → Ahead w u (x ++ y)
ahead_then {w} {v} {u} {x} {y} p q =
    let s = sets p.settled v.at y in
    let one : Wrote p.settled v.at y (length y) u.at s = record { ends = q.wrote.ends; bytes = refl; short = omega arith } in
    let left = drop (length y) p.spare in
    let settled : q.settled ≡ sets s u.at left = q.wrote.bytes ∙ rw (p.bytes, q.wrote.ends) (sets_over p.settled p.spare y v.at) in
    record {
      same = q.same ∙ p.same;
      long = q.long ∙ p.long;
      settled = s;
      wrote = wrote_as refl (omega (arith, length-append x y)) (wrote_then p.wrote one);
      spare = q.spare ++ drop (length q.spare) left;
      bytes = q.bytes ∙ rw settled (sets_over s left q.spare u.at ∙ sets_then s q.spare (drop (length q.spare) left) u.at (u.at + length q.spare) refl);
    }

-- at the end of the buffer there is nothing ahead
pub ahead_all : {w v : Writer} {x : List ℕ} → Ahead w v x → length w.buf.now ≤ v.at → Writes w v x (length x)
ahead_all {w} {v} {x} p h =
    let z : v.buf.now ≡ p.settled = p.bytes ∙ sets_out p.settled p.spare v.at (omega (arith, wrote_length p.wrote)) in
    record { same = p.same; long = p.long; wrote = record { ends = p.wrote.ends; bytes = z ∙ p.wrote.bytes; short = p.wrote.short } }
