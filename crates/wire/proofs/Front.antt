-- What the rules find at a command byte, by the table of commands, in the terms of the code.
use mathlib.Core.Path.{◌≡◌, refl, sym, ap, ◌∙◌}
use mathlib.Core.List.{List, [], ◌∷◌}
use mathlib.Core.Option.{Option, none, some}
use Prim.Native.Nat.{ℕ, zero, suc, ◌+◌, ◌-◌, ◌≤◌, ◌<◌}
use native.Mathlib.Nat.{zero-add}
use native.Mathlib.Omega.{arith}
use borrow.Author.Tests.{lt-ltb, le-ltb, eqb-true}
use lib.Dec.{eqb}
use lib.ListN.{length, get_or, take, drop, length-drop}
use lib.Seq.{take_all, get_or-drop}
use Rattle.rules.specs.Bytes.{Form, Front, unknown, cut, whole, Command, Begin, form_of, commands, widths, values, big_endian, front_by, front}
use Rattle.rules.proofs.Table.{bool}
use Rattle.std.specs.Int.{from_be_bytes}
use Rattle.std.proofs.Common.{w32}
use Rattle.wire.specs.Meaning.{front_in, shown_in}

-- what `&s[a..]` lends
pub rest : (s : List ℕ) (a : ℕ) → take (length s - a) (drop a s) ≡ drop a s
rest s a = take_all (length s - a) (drop a s) (rw length-drop (omega arith))

front_some : (s : List ℕ) → (length s ≡ 0 → ⊥) → front_in s ≡ some (front (get_or s 0 0) (drop 1 s))
front_some [] n = absurd (n refl)
front_some (b ∷ bs) n = refl

-- ---- Operands

-- 0 where there is no such form
abbrev pub width_of : Option Form → ℕ
width_of none = 0
width_of (some f) = widths f.operands

unfoldable pub operand_bytes : ℕ → ℕ
operand_bytes b = width_of (form_of b commands)

abbrev pub contents : (a b c d : ℕ) → ℕ
contents a b c d = big_endian (a ∷ b ∷ c ∷ d ∷ [])

pub first_byte : (l : List ℕ) → big_endian (take 1 l) ≡ get_or l 0 0
first_byte [] = refl
first_byte (a ∷ l) = zero-add a

pub second_byte : (l : List ℕ) → big_endian (take 1 (drop 1 l)) ≡ get_or l 1 0
second_byte l = first_byte (drop 1 l) ∙ get_or-drop 1 l 0 0

pub four_bytes : (l : List ℕ) → 4 ≤ length l → big_endian (take 4 l) ≡ contents (get_or l 0 0) (get_or l 1 0) (get_or l 2 0) (get_or l 3 0)
four_bytes (a ∷ b ∷ c ∷ d ∷ l) h = refl
four_bytes (a ∷ b ∷ c ∷ []) h = absurd (omega arith)
four_bytes (a ∷ b ∷ []) h = absurd (omega arith)
four_bytes (a ∷ []) h = absurd (omega arith)
four_bytes [] h = absurd (omega arith)

pub read_be : (a b c d : ℕ) → from_be_bytes w32 (a ∷ b ∷ c ∷ d ∷ []) ≡ contents a b c d
read_be a b c d = omega arith

pub last_bytes : (l : List ℕ) → 6 ≤ length l → big_endian (take 4 (drop 1 (drop 1 l))) ≡ contents (get_or l 2 0) (get_or l 3 0) (get_or l 4 0) (get_or l 5 0)
last_bytes l h = four_bytes (drop 1 (drop 1 l)) (simp length-drop (omega arith)) ∙ simp get_or-drop

-- ---- The table's lines

-- each command has operands, and a byte up to 8
abbrev Lines : List Form → Type 0
Lines [] = Unit {0}
Lines (f ∷ fs) = (0 < widths f.operands) × (1 ≤ f.number) × (f.number ≤ 8) × Lines fs

abbrev Found : ℕ → Option Form → Type 0
Found b none = Unit {0}
Found b (some f) = (0 < widths f.operands) × (1 ≤ b) × (b ≤ 8)

found_in : (b : ℕ) (fs : List Form) → Lines fs → Found b (form_of b fs)
found_in b [] l = tt
found_in b (f ∷ fs) l =
    bool (eqb f.number b)
    (λ e.
    let k = eqb-true f.number b e in
    rw e (l.0, omega arith, omega arith))
    (λ e. rw e (found_in b fs l.3))

found : (b : ℕ) → Found b (form_of b commands)
found b = found_in b commands (search arith)

known_by : (b : ℕ) (o : Option Form) → Found b o → 0 < width_of o → (1 ≤ b) × (b ≤ 8)
known_by b none h w = absurd (omega arith)
known_by b (some f) h w = (h.1, h.2)

known : (b : ℕ) → 0 < operand_bytes b → (1 ≤ b) × (b ≤ 8)
unfolding operand_bytes
known b w = known_by b (form_of b commands) (found b) w

-- what a `match` knows of b behind its arms 1 to k
abbrev pub Not_to : ℕ → ℕ → Type 0
Not_to b zero = Unit {0}
Not_to b (suc k) = Not_to b k × (b ≡ suc k → ⊥)

past : (b k : ℕ) → 1 ≤ b → Not_to b k → suc k ≤ b
past b zero h n = h
past b (suc k) h n =
    let l = past b k h n.0 in
    let m = n.1 in
    omega arith

not_above : (w : ℕ) → (0 < w → ⊥) → 0 ≡ w
not_above zero n = refl
not_above (suc w) n = absurd (n (omega arith))

pub no_operands : (b : ℕ) → Not_to b 8 → 0 ≡ operand_bytes b
no_operands b n =
    not_above (operand_bytes b) (λ h.
    let k = known b h in
    let l = past b 8 k.0 n in
    omega arith)

-- ---- By the number of operand bytes

unknown_by : (b : ℕ) (o : Option Form) (bs : List ℕ) → Found b o → width_of o ≡ 0 → front_by o bs ≡ unknown
unknown_by b none bs h e = refl
unknown_by b (some f) bs h e = absurd (omega arith)

cut_by : (o : Option Form) (bs : List ℕ) → length bs < width_of o → front_by o bs ≡ cut
cut_by none bs h = absurd (omega arith)
cut_by (some f) bs h = rw (lt-ltb _ _ h)

-- the command of a line of the table
abbrev command_by : Option Form → List ℕ → Command
command_by none bs = Begin 0
command_by (some f) bs = f.command (values f.operands bs)

whole_by : (o : Option Form) (bs : List ℕ) → 0 < width_of o → width_of o ≤ length bs → front_by o bs ≡ whole (command_by o bs) (width_of o)
whole_by none bs p h = absurd (omega arith)
whole_by (some f) bs p h = rw (le-ltb _ _ h)

module _ (b : ℕ) (bs : List ℕ) where
  front_unknown : operand_bytes b ≡ 0 → front b bs ≡ unknown
  unfolding operand_bytes
  front_unknown e = unknown_by b (form_of b commands) bs (found b) e

  front_cut : length bs < operand_bytes b → front b bs ≡ cut
  unfolding operand_bytes
  front_cut h = cut_by (form_of b commands) bs h

  -- no number of the table
  pub front_none : Not_to b 8 → some unknown ≡ some (front b bs)
  front_none n = rw (front_unknown (sym (no_operands b n)))

  -- a number k of the table with w operand bytes: they are cut short, or there, and then the command computes
  pub front_short : (k w : ℕ) → operand_bytes k ≡ w → b ≡ k → length bs < w → some cut ≡ some (front b bs)
  front_short k w z e h = rw (front_cut (rw (e, z) h))

  pub front_long : (k w : ℕ) → operand_bytes k ≡ w → b ≡ k → 0 < w → w ≤ length bs → front b bs ≡ whole (command_by (form_of k commands) bs) (width_of (form_of k commands))
  unfolding operand_bytes
  front_long k w z e p h = rw (← e) (whole_by (form_of b commands) bs (rw (e, z) p) (rw (e, z) h))

-- ---- The front of the rest of a session

pub rest_end : (s : List ℕ) → length s ≡ 0 → none ≡ front_in s
rest_end [] e = refl
rest_end (b ∷ bs) e = absurd (omega arith)

pub rest_whole : (s : List ℕ) (f : Option Front) → (length s ≡ 0 → ⊥) → f ≡ some (front (get_or s 0 0) (take (length s - 1) (drop 1 s))) → f ≡ front_in s
rest_whole s f n e = e ∙ rw (front_some s n, rest s 1)

-- what the slice pattern leaves behind the byte
abbrev pub behind : List ℕ → List ℕ
behind s = take (length s - 1) (drop 1 s)

module _ (s : List ℕ) (n : 1 ≤ length s) where
  there : length s ≡ 0 → ⊥
  there e = omega arith

  pub rest_none : Not_to (get_or s 0 0) 8 → some unknown ≡ front_in s
  rest_none h = rest_whole s (some unknown) there (front_none (get_or s 0 0) (behind s) h)

  pub rest_short : (k w : ℕ) → operand_bytes k ≡ w → get_or s 0 0 ≡ k → length (behind s) < w → some cut ≡ front_in s
  rest_short k w z e h = rest_whole s (some cut) there (front_short (get_or s 0 0) (behind s) k w z e h)

  pub rest_long : (k w : ℕ) → operand_bytes k ≡ w → get_or s 0 0 ≡ k → 0 < w → w ≤ length (behind s) → some (whole (command_by (form_of k commands) (behind s)) (width_of (form_of k commands))) ≡ front_in s
  rest_long k w z e p h = rest_whole s _ there (ap some (sym (front_long (get_or s 0 0) (behind s) k w z e p h)))

-- ---- What is shown

module _ (s : List ℕ) where
  pub shown_none : length s ≡ 0 → 0 ≡ shown_in (front_in s) (length s)
  shown_none e = rw (sym (rest_end s e))

  module _ (w : ℕ) (some : length s ≡ 0 → ⊥) (e : w ≡ operand_bytes (get_or s 0 0)) where
    pub shown_unknown : w ≡ 0 → 1 ≡ shown_in (front_in s) (length s)
    shown_unknown z = rw (front_some s some, front_unknown (get_or s 0 0) (drop 1 s) (sym e ∙ z))

    pub shown_cut : length s ≤ w → length s ≡ shown_in (front_in s) (length s)
    shown_cut h = rw (front_some s some, front_cut (get_or s 0 0) (drop 1 s) (rw (length-drop 1 s, ← e) (let n = some in omega arith)))

    pub shown_whole : 0 < w → w < length s → 1 + w ≡ shown_in (front_in s) (length s)
    unfolding operand_bytes
    shown_whole p h = rw (front_some s some, whole_by (form_of (get_or s 0 0) commands) (drop 1 s) (rw e at p) (rw (length-drop 1 s, ← e) (omega arith)), ← e) (omega arith)
