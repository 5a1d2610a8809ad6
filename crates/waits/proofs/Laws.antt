-- A queue's lines one entry at a time, with the names that the next one waits for.
use Prim.Native.Nat.{ℕ, ◌+◌, ◌*◌, ◌≤◌, ◌<◌}
use mathlib.Core.Path.{◌≡◌, refl, sym, ap, ◌∙◌}
use mathlib.Core.Bool.{Bool, true, false, cond}
use mathlib.Core.List.{List, [], ◌∷◌, ◌++◌, append-nil, append_assoc}
use native.Mathlib.Omega.{arith}
use native.Mathlib.Numerals.{add-one}
use lib.ListN.{length, get_or, take}
use lib.Seq.{take-suc}
use lib.Dec.{eqb}
use borrow.Author.Tests.{eqb-true, eqb-false}
use Rattle.rules.specs.State.{Claim, shared, exclusive}
use Rattle.rules.specs.Report.{field}
use Rattle.rules.specs.Showing.{each, lettered, in_way, ways}
use Rattle.rules.proofs.Table.{bool}
use Rattle.text.specs.declared.Writer.{Writer}
use Rattle.text.specs.Writes.{Writes}
use Rattle.text.proofs.Figures.{decimal_short}
use Rattle.text.proofs.Writing.{writes_none, writes_as, writes_next, writes_then}
use Rattle.clipped.proofs.Laws.{writes_front, writes_within}
use Rattle.clipped.proofs.Rows.{each_then, each_one}
use Rattle.waits.specs.Queues.{those, names_text, entry_text, line_behind, lines_behind}

-- ---- One line

-- no names, or some
pub no_names : {w v : Writer} (names : List ℕ) → eqb (length names) 0 ≡ true → Writes w v (lettered 71) 2 → Writes w v (names_text names) 98
unfolding names_text
no_names [] h g = writes_within refl (omega arith) g
no_names (c ∷ names) h g = let z = eqb-true _ _ h in absurd (omega arith)

pub with_names : {w v z : Writer} (names : List ℕ) → eqb (length names) 0 ≡ false → length names ≤ 96 → Writes w v (lettered 87) 2 → Writes v z names (length names) → Writes w z (names_text names) 98
unfolding names_text
with_names [] d h g p = absurd (eqb-false 0 0 d refl)
with_names (c ∷ names) d h g p = writes_within refl (omega arith) (writes_then g p)

-- ---- One more at a list's end

pub ways_snoc : (c : Claim) (x : ℕ → Bool) (us : List ℕ) (u : ℕ) → ways c x (us ++ u ∷ []) ≡ cond (in_way c x u) (ways c x us ++ u ∷ []) (ways c x us)
unfolding ways
ways_snoc c x [] u = refl
ways_snoc c x (v ∷ us) u = bool (in_way c x v)
    (λ e. rw (e, ways_snoc c x us u) (bool (in_way c x u) (λ g. rw g) (λ g. rw g)))
    (λ e. rw (e, ways_snoc c x us u))

-- an X waits for all
pub all_ways : (x : ℕ → Bool) (us : List ℕ) → ways exclusive x us ≡ us
unfolding ways
all_ways x [] = refl
all_ways x (u ∷ us) = ap (λ l. u ∷ l) (all_ways x us)

module _ (x : ℕ → Bool) (k : ℕ) where
  pub lines_snoc : (us vs : List ℕ) (v : ℕ) → lines_behind x k us (vs ++ v ∷ []) ≡ lines_behind x k us vs ++ line_behind x k (us ++ vs) v
  unfolding lines_behind
  lines_snoc us [] v = rw (append-nil us, append-nil (line_behind x k us v))
  lines_snoc us (w ∷ vs) v = rw (lines_snoc (us ++ w ∷ []) vs v, append_assoc us (w ∷ []) vs)
      (sym (append_assoc (line_behind x k us w) (lines_behind x k (us ++ w ∷ []) vs) (line_behind x k (us ++ w ∷ vs) v)))

-- a save's number has two figures at most
field_short : (u : ℕ) → u < 32 → length (field u) ≤ 3
unfolding field
field_short u l = omega (arith, decimal_short 1 u (omega arith))

-- ---- A queue, when the first i in line were looked at

pub record Grown (f x : ℕ → Bool) (k : ℕ) (line : List ℕ) (room₀ names₀ xs₀ : Writer) (i : ℕ) (room names xs : Writer) : Type 0 where
  pub lines : Writes room₀ room (lines_behind x k [] (those f (take i line))) (i * 124)
  pub all : Writes names₀ names (each field (those f (take i line))) (i * 3)
  pub exclusive : Writes xs₀ xs (each field (those x (those f (take i line)))) (i * 3)

pub grown_none : (f x : ℕ → Bool) (k : ℕ) (line : List ℕ) (room names xs : Writer) → Grown f x k line room names xs 0 room names xs
unfolding lines_behind each ways
grown_none f x k line room names xs = record { lines = writes_none room; all = writes_none names; exclusive = writes_none xs }

module _ {f x : ℕ → Bool} {k : ℕ} {line : List ℕ} {room₀ names₀ xs₀ : Writer} {i : ℕ} {room names xs : Writer}
    (g : Grown f x k line room₀ names₀ xs₀ i room names xs) (h : i < length line) where
  abbrev u : ℕ
  u = get_or line i 0

  abbrev es : List ℕ
  es = those f (take i line)

  abbrev now : List ℕ
  now = those f (take (i + 1) line)

  passed_by : f u ≡ false → now ≡ es
  passed_by y = rw (add-one i, take-suc line i 0 h) (ways_snoc shared f (take i line) u ∙ rw y)

  joined : f u ≡ true → now ≡ es ++ u ∷ []
  joined y = rw (add-one i, take-suc line i 0 h) (ways_snoc shared f (take i line) u ∙ rw y)

  pub grown_past : f u ≡ false → Grown f x k line room₀ names₀ xs₀ (i + 1) room names xs
  grown_past y = record {
    lines = rw (passed_by y) (writes_within refl (omega arith) g.lines);
    all = rw (passed_by y) (writes_within refl (omega arith) g.all);
    exclusive = rw (passed_by y) (writes_within refl (omega arith) g.exclusive);
  }

  module _ (small : u < 32) (y : f u ≡ true) {names' : Writer} (w : Writes names names' (field u) 11) where
    -- one name more
    named : Writes names₀ names' (each field now) ((i + 1) * 3)
    named = writes_next (rw (joined y, ← each_then field es (u ∷ []), each_one field u)) g.all (writes_as refl (field_short u small) w) (omega arith)

    line_on : {room' : Writer} → Writes room room' (line_behind x k es u) 124 → Writes room₀ room' (lines_behind x k [] now) ((i + 1) * 124)
    line_on p = writes_next (rw (joined y) (sym (lines_snoc x k [] es u))) g.lines p (omega arith)

    -- an X waits for all before it
    pub grown_x : x u ≡ true → names₀.at ≡ 0 → i * 3 ≤ length names₀.buf.now → {room' xs' : Writer} {ns : List ℕ} → ns ≡ take names.at names.buf.now → Writes room room' (entry_text k u 88 ns) 124 → Writes xs xs' (field u) 11
        → Grown f x k line room₀ names₀ xs₀ (i + 1) room' names' xs'
    unfolding line_behind
    grown_x z o n q p v = record {
      lines = line_on (rw (z, all_ways x es, ← writes_front g.all o n, ← q) p);
      all = named;
      exclusive = writes_next (rw (joined y, ways_snoc shared x es u, z, ← each_then field (those x es) (u ∷ []), each_one field u)) g.exclusive (writes_as refl (field_short u small) v) (omega arith);
    }

    -- an S for the X
    pub grown_s : x u ≡ false → xs₀.at ≡ 0 → i * 3 ≤ length xs₀.buf.now → {room' : Writer} {ns : List ℕ} → ns ≡ take xs.at xs.buf.now → Writes room room' (entry_text k u 83 ns) 124
        → Grown f x k line room₀ names₀ xs₀ (i + 1) room' names' xs
    unfolding line_behind
    grown_s z o n q p = record {
      lines = line_on (rw (z, ← writes_front g.exclusive o n, ← q) p);
      all = named;
      exclusive = writes_within (rw (joined y, ways_snoc shared x es u, z)) (omega arith) g.exclusive;
    }
