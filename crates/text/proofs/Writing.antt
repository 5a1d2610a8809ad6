-- Texts one after the other.
use mathlib.Core.Path.{◌≡◌, refl, sym, ap, ◌∙◌}
use mathlib.Core.List.{List, [], ◌∷◌, ◌++◌}
use Prim.Native.Nat.{ℕ, suc, ◌+◌, ◌≤◌}
use native.Mathlib.Nat.{zero-add, add-zero, add-suc, suc-add}
use native.Mathlib.Omega.{arith}
use lib.ListN.{length, drop, length-append}
use lib.Seq.{sets, sets-eq, length-sets}
use Rattle.rules.specs.Report.{in_front}
use Rattle.text.specs.declared.Writer.{Writer}
use Rattle.text.specs.Wrote.{Wrote}
use Rattle.text.specs.Writes.{Writes}

sets_append : (xs ys l : List ℕ) (i : ℕ) → sets (sets l i xs) (i + length xs) ys ≡ sets l i (xs ++ ys)
sets_append [] ys l i = rw add-zero
sets_append (x ∷ xs) ys l i = rw (add-suc, ← suc-add i (length xs)) (sets_append xs ys _ (suc i))

-- a text and then another
pub wrote_then : {l m k : List ℕ} {a b c : ℕ} {x y : List ℕ} {u v : ℕ} → Wrote l a x u b m → Wrote m b y v c k → Wrote l a (x ++ y) (u + v) c k
wrote_then {l} {m} {k} {a} {b} {c} {x} {y} {u} {v} p q =
    record {
      ends = q.ends ∙ rw (p.ends, length-append) (omega arith);
      bytes = q.bytes ∙ rw (p.bytes, p.ends) (sets_append x y l a);
      short = rw length-append (omega arith);
    }

-- as many bytes as before
pub wrote_length : {l m x : List ℕ} {a b u : ℕ} → Wrote l a x u b m → length m ≡ length l
wrote_length {l} {m} {x} {a} {b} {u} p = ap length p.bytes ∙ length-sets l a x

-- the end is within the room
pub wrote_end : {l m x : List ℕ} {a b u : ℕ} → Wrote l a x u b m → b ≤ a + u
wrote_end p = omega arith

pub wrote_none : (l : List ℕ) (a : ℕ) → Wrote l a [] 0 a l
wrote_none l a = record { ends = sym (add-zero a); bytes = refl; short = omega arith }

-- the same text under another name, with a room of its own
pub wrote_as : {l m x y : List ℕ} {a b u v : ℕ} → x ≡ y → length y ≤ v → Wrote l a x u b m → Wrote l a y v b m
wrote_as e h p = record { ends = p.ends ∙ rw e; bytes = p.bytes ∙ rw e; short = h }

-- one line more, in a room for all
pub wrote_next : {l m k x y z : List ℕ} {a b c u v w : ℕ} → x ++ y ≡ z → u + v ≤ w → Wrote l a x u b m → Wrote m b y v c k → Wrote l a z w c k
wrote_next e h p q =
    let t = wrote_then p q in
    wrote_as e (omega (arith, ap length e)) t

-- a text at the front of a buffer with room for it, as the rules say of a call
pub wrote_front : {l m x : List ℕ} {b u : ℕ} → Wrote l 0 x u b m → u ≤ length l → record { size = b; buffer = m } ≡ in_front x l
wrote_front {l} {m} {x} {b} {u} p h =
    let e : b ≡ length x = p.ends ∙ zero-add (length x) in
    let f : m ≡ x ++ drop (length x) l = p.bytes ∙ sets-eq x l 0 (omega arith) ∙ rw zero-add in
    λ i. record { size = e i; buffer = f i }

-- the buffer comes back from the writer that it was lent to
pub wrote_back : {l m k x : List ℕ} {a b u : ℕ} → Wrote l a x u b m → k ≡ m → Wrote l a x u b k
wrote_back p e = record { ends = p.ends; bytes = e ∙ p.bytes; short = p.short }

-- ---- The same of a writer

-- one text and then another
pub writes_then : {w v z : Writer} {x y : List ℕ} {a b : ℕ} → Writes w v x a → Writes v z y b → Writes w z (x ++ y) (a + b)
writes_then p q = record { same = q.same ∙ p.same; long = q.long ∙ p.long; wrote = wrote_then p.wrote q.wrote }

pub writes_none : (w : Writer) → Writes w w [] 0
writes_none w = record { same = refl; long = refl; wrote = wrote_none w.buf.now w.at }

-- the same text under another name, with a room of its own
pub writes_as : {w v : Writer} {x y : List ℕ} {a b : ℕ} → x ≡ y → length y ≤ b → Writes w v x a → Writes w v y b
writes_as e h p = record { same = p.same; long = p.long; wrote = wrote_as e h p.wrote }

-- one line more, in a room for all
pub writes_next : {w v u : Writer} {x y z : List ℕ} {a b c : ℕ} → x ++ y ≡ z → Writes w v x a → Writes v u y b → a + b ≤ c → Writes w u z c
writes_next e p q h = record { same = q.same ∙ p.same; long = q.long ∙ p.long; wrote = wrote_next e h p.wrote q.wrote }

-- nothing to write
pub writes_nothing : {x : List ℕ} {a : ℕ} (w : Writer) → x ≡ [] → Writes w w x a
writes_nothing w e = writes_as (sym e) (rw e (omega arith)) (writes_none w)
