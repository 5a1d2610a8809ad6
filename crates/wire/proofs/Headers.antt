-- The header in the terms of the code: the owners, and what a session that opens has.
use mathlib.Core.Path.{◌≡◌, sym, ap, ◌∙◌}
use mathlib.Core.Bool.{Bool, true, false, ◌&&◌, and-false}
use mathlib.Core.List.{List}
use Prim.Native.Nat.{ℕ, zero, suc, ◌+◌, ◌-◌, ◌≤◌, ◌<◌}
use native.Mathlib.Numerals.{add-one}
use native.Mathlib.Omega.{arith}
use borrow.Author.Tests.{le-leb, leb-true, ltb-true, eqb-true, eqb-false}
use lib.Dec.{leb, ltb, eqb}
use lib.ListN.{length, take, drop, length-take, length-drop, get_or-eq_default}
use lib.Seq.{take_all, get_or-take, get_or-drop}
use Rattle.rules.specs.Table.{all}
use Rattle.rules.proofs.Table.{bool, below?, and_l, and_r, all_at}
use Rattle.rules.specs.Sizes.{max_nodes, max_sheets, max_session}
use Rattle.rules.specs.Bytes.{byte, header, header_size, opens}
use Rattle.std.specs.Prelude.{Some, None}
use Rattle.wire.specs.Meaning.{opened}

-- ---- Tests over the numbers below a bound

module _ (f : ℕ → Bool) where
  pub all_fails : (n k : ℕ) → k < n → f k ≡ false → false ≡ all n f
  unfolding all
  all_fails zero k h e = absurd (omega arith)
  all_fails (suc n) k h e =
      bool (eqb k n)
      (λ t. rw (← eqb-true k n t, e))
      (λ t.
      let d = eqb-false k n t in
      rw (← all_fails n k (omega arith) e) (sym (and-false (f n))))

  pub all_more : (k : ℕ) → f k ≡ true → true ≡ all k f → true ≡ all (k + 1) f
  unfolding all
  all_more k e h = rw (add-one, e, ← h)

-- ---- What a session that opens has

pub record Opens (b : List ℕ) : Type 0 where
  pub size : length b ≤ max_session
  pub fits : header_size b ≤ length b
  pub some_node : 1 ≤ byte b 0
  pub nodes : byte b 0 ≤ max_nodes
  pub some_sheet : 1 ≤ byte b 1
  pub sheets : byte b 1 ≤ max_sheets

abbrev owned : List ℕ → ℕ → Bool
owned b k = ltb ((header b).owner k) (byte b 0)

pub opens_has : (b : List ℕ) → opens b ≡ true → Opens b × (all (byte b 1) (owned b) ≡ true)
opens_has b e =
    let n0 = leb 1 (byte b 0) in
    let n1 = leb (byte b 0) max_nodes in
    let m0 = leb 1 (byte b 1) in
    let m1 = leb (byte b 1) max_sheets in
    let o = all (byte b 1) (owned b) in
    let s = leb (length b) max_session in
    let f = leb (header_size b) (length b) in
    let sf = and_l (s && f) _ e in
    let r : ((n0 && n1) && (m0 && m1)) && o ≡ true = and_r (s && f) _ e in
    let nm = and_l ((n0 && n1) && (m0 && m1)) o r in
    let n = and_l (n0 && n1) (m0 && m1) nm in
    let m = and_r (n0 && n1) (m0 && m1) nm in (
      record {
        size = leb-true _ _ (and_l s f sf);
        fits = leb-true _ _ (and_r s f sf);
        some_node = leb-true _ _ (and_l n0 n1 n);
        nodes = leb-true _ _ (and_r n0 n1 n);
        some_sheet = leb-true _ _ (and_l m0 m1 m);
        sheets = leb-true _ _ (and_r m0 m1 m);
      },
      and_r ((n0 && n1) && (m0 && m1)) o r,
    )

-- the owners decide where the rest is in order
opens_by : (b : List ℕ) → Opens b → opens b ≡ all (byte b 1) (owned b)
opens_by b h =
    rw (le-leb _ _ h.size, le-leb _ _ h.fits, le-leb _ _ h.some_node, le-leb _ _ h.nodes, le-leb _ _ h.some_sheet, le-leb _ _ h.sheets)

module _ (b : List ℕ) where
  pub refused : (Opens b → ⊥) → None ≡ opened b
  unfolding opened
  refused n = bool (opens b) (λ e. absurd (n (opens_has b e).0)) (λ e. rw e)

  pub refused_owners : Opens b → false ≡ all (byte b 1) (owned b) → None ≡ opened b
  unfolding opened
  refused_owners h e = rw (opens_by b h, ← e)

  pub admitted : Opens b → true ≡ all (byte b 1) (owned b) → Some (record { nodes = byte b 0; sheets = byte b 1 }) ≡ opened b
  unfolding opened
  admitted h e = rw (opens_by b h, ← e)

-- ---- The owners

-- the owners as the slice behind the two counts
abbrev pub lent : List ℕ → List ℕ
lent b = take (byte b 1) (take (length b - 2) (drop 2 b))

lent_is : (b : List ℕ) → lent b ≡ take (byte b 1) (drop 2 b)
lent_is b = ap (take (byte b 1)) (take_all (length b - 2) (drop 2 b) (rw length-drop (omega arith)))

module _ (b : List ℕ) (h : Opens b) where
  many : length (lent b) ≡ byte b 1
  many = let f = h.fits in rw (lent_is b, length-take, length-drop) (omega arith)

  -- whether each is below the node count
  pub tested : (r : Bool) → r ≡ all (length (lent b)) (λ k. ltb (byte (lent b) k) (byte b 0)) → r ≡ all (byte b 1) (owned b)
  tested r e = e ∙ rw (many, lent_is b)

module _ (b : List ℕ) (k : ℕ) where
  pub owner_in : k < byte b 1 → byte b (2 + k) ≡ (header b).owner k
  owner_in h = rw (get_or-take, get_or-drop)

  pub owner_beyond : byte b 1 ≤ k → 0 ≡ (header b).owner k
  owner_beyond h = sym (get_or-eq_default (take (byte b 1) (drop 2 b)) 0 (rw length-take (omega arith)))

-- a session that opens has a byte for each sheet's owner
pub owners_length : (b : List ℕ) → opens b ≡ true → length (take (byte b 1) (drop 2 b)) ≡ byte b 1
owners_length b e =
    let h = (opens_has b e).0 in
    rw (length-take, length-drop) (omega arith)

-- and each sheet's owner is a node
pub owner_below : (b : List ℕ) → opens b ≡ true → (k : ℕ) → k < byte b 1 → (header b).owner k < byte b 0
owner_below b e k h = ltb-true _ _ (all_at (byte b 1) (owned b) (opens_has b e).1 k h)

-- below the limit on nodes at any number, since 0 stands beyond the sheets
pub owner_small : (b : List ℕ) → opens b ≡ true → (k : ℕ) → (header b).owner k < max_nodes
owner_small b e k =
    below? k (byte b 1)
    (λ l. omega (arith, owner_below b e k l, (opens_has b e).0.nodes))
    (λ l. omega (arith, owner_beyond b k l))
