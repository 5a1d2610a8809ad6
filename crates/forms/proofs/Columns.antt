-- The columns of the table of commands, byte by byte.
use Prim.Native.Nat.{ℕ, zero, suc, ◌+◌, ◌-◌, ◌*◌, ◌/◌, ◌%◌, ◌^◌, ◌≤◌, ◌<◌}
use mathlib.Core.Path.{◌≡◌, refl, sym, ap, ◌∙◌}
use mathlib.Core.Bool.{Bool, false, ◌&&◌}
use mathlib.Core.List.{List, [], ◌∷◌}
use native.Mathlib.Omega.{arith}
use borrow.Author.Tests.{lt-ltb, le-ltb}
use lib.Dec.{ltb, leb, leb-suc-suc}
use lib.ListN.{length, get_or}
use lib.Pow.{shr-shr}
use Rattle.rules.specs.Sizes.{max_nodes, max_sheets}
use Rattle.rules.specs.Bytes.{widths}
use Rattle.rules.specs.Writing.{form}
use Rattle.forms.specs.Slots.{slot, operands, Known, slot_limit}
use Rattle.forms.specs.Columns.{byte_of, Bounds}
use Rattle.forms.specs.declared.Largest.{Largest}
use Rattle.forms.proofs.Slots.{by_table}

-- a word by its bytes, the lowest first
abbrev word : List ℕ → ℕ
word [] = 0
word (b ∷ bs) = b + 256 * word bs

abbrev Small : List ℕ → Type 0
Small [] = Unit {0}
Small (b ∷ bs) = (b < 256) × Small bs

word_byte : (bs : List ℕ) → Small bs → (k : ℕ) → k < length bs → word bs / 2 ^ (8 * k) % 256 ≡ get_or bs k 0
word_byte [] s k l = absurd (omega arith)
word_byte (b ∷ bs) s zero l = omega arith
word_byte (b ∷ bs) s (suc k) l =
    let w = b + 256 * word bs in
    let next : 8 * suc k ≡ 8 + 8 * k = omega arith in
    let high : w / 256 ≡ word bs = omega arith in
    let shifted : w / 2 ^ (8 * suc k) ≡ word bs / 2 ^ (8 * k) = ap (λ (e : ℕ). w / 2 ^ e) next ∙ sym (shr-shr w 8 (8 * k)) ∙ ap (λ (x : ℕ). x / 2 ^ (8 * k)) high in
    ap (λ (x : ℕ). x % 256) shifted ∙ word_byte bs s.1 k (omega arith)

-- an operand below the limit v is at most the byte there
below : (w : ℕ) (bs : List ℕ) → Small bs → w ≡ word bs → (k v : ℕ) → k < length bs → v ≡ suc (get_or bs k 0) → v ≡ suc (w / 2 ^ (8 * k) % 256)
below w bs s e k v l q = q ∙ ap suc (sym (ap (λ (x : ℕ). x / 2 ^ (8 * k) % 256) e ∙ word_byte bs s k l))

-- ---- The columns

abbrev sizes : ℕ
sizes = 0x0203020202070302

-- saves, and the nodes of TAKE and APPLY
abbrev firsts : (nodes : ℕ) → ℕ
firsts n = 0x0100010001010101 * 31 + 0x0001000100000000 * (n - 1)

-- APPLY's save, and the sheets of READ and WRITE
abbrev seconds : (sheets : ℕ) → ℕ
seconds m = 0x0001000000000000 * 31 + 0x0000000000010100 * (m - 1)

pub size_column : (c : ℕ) → Known c → byte_of sizes c ≡ 1 + widths (operands c)
unfolding byte_of
size_column c k = by_table (λ c os. byte_of sizes c ≡ 1 + widths os) (search refl) c k

module _ (n m : ℕ) where
  pub first_column : 1 ≤ n → n ≤ max_nodes → (c : ℕ) → Known c → slot_limit n m (slot (operands c) 0) ≡ suc (byte_of (firsts n) c)
  unfolding byte_of
  first_column l h c k =
      let at = below (firsts n) (31 ∷ 31 ∷ 31 ∷ 31 ∷ (n - 1) ∷ 31 ∷ (n - 1) ∷ 31 ∷ []) (search arith) (omega arith) in
      by_table (λ c os. slot_limit n m (slot os 0) ≡ suc (byte_of (firsts n) c))
      (at 0 32 (omega arith) refl, (at 1 32 (omega arith) refl, (at 2 32 (omega arith) refl, (at 3 32 (omega arith) refl, (at 4 n (omega arith) (omega arith), (at 5 32 (omega arith) refl, (at 6 n (omega arith) (omega arith), (at 7 32 (omega arith) refl, tt)))))))) c k

  pub second_column : 1 ≤ m → m ≤ max_sheets → (c : ℕ) → Known c → slot_limit n m (slot (operands c) 1) ≡ suc (byte_of (seconds m) c)
  unfolding byte_of
  second_column l h c k =
      let at = below (seconds m) (0 ∷ (m - 1) ∷ (m - 1) ∷ 0 ∷ 0 ∷ 0 ∷ 31 ∷ 0 ∷ []) (search arith) (omega arith) in
      by_table (λ c os. slot_limit n m (slot os 1) ≡ suc (byte_of (seconds m) c))
      (at 0 1 (omega arith) refl, (at 1 m (omega arith) (omega arith), (at 2 m (omega arith) (omega arith), (at 3 1 (omega arith) refl, (at 4 1 (omega arith) refl, (at 5 1 (omega arith) refl, (at 6 32 (omega arith) refl, (at 7 1 (omega arith) refl, tt)))))))) c k

-- WRITE alone has a third operand
module _ (n m c : ℕ) (k : Known c) where
  pub third_content : c ≡ 3 → slot_limit n m (slot (operands c) 2) ≡ 4294967296
  unfolding operands form
  third_content e = rw e

  pub third_absent : (c ≡ 3 → ⊥) → slot_limit n m (slot (operands c) 2) ≡ 1
  third_absent ne =
      by_table (λ c os. (c ≡ 3 → ⊥) → slot_limit n m (slot os 2) ≡ 1)
      (λ ne. refl, (λ ne. refl, (λ ne. absurd (ne refl), (λ ne. refl, (λ ne. refl, (λ ne. refl, (λ ne. refl, (λ ne. refl, tt)))))))) c k ne

-- ---- Operands by their columns

module _ (c x y n m : ℕ) (l : Largest) (k : Known c) (b : Bounds n m l) where
  abbrev fit : Bool
  fit = ltb x (slot_limit n m (slot (operands c) 0)) && ltb y (slot_limit n m (slot (operands c) 1))

  pub first_bad : byte_of l.first c < x → false ≡ fit
  first_bad h = rw (b.first c k, le-ltb x (suc (byte_of l.first c)) h)

  pub second_decides : x ≤ byte_of l.first c → leb y (byte_of l.second c) ≡ fit
  second_decides h = rw (b.first c k, b.second c k, lt-ltb x (suc (byte_of l.first c)) (omega arith), leb-suc-suc)
