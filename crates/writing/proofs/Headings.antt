-- What a header that fits has.
use Prim.Native.Nat.{ℕ, ◌≤◌}
use mathlib.Core.Path.{◌≡◌, sym}
use mathlib.Core.Bool.{Bool, true, false}
use mathlib.Core.List.{List}
use borrow.Author.Tests.{le-leb, eq-eqb, eqb-true}
use lib.Dec.{eqb, ltb}
use lib.ListN.{length}
use Rattle.rules.specs.Sizes.{max_nodes, max_sheets}
use Rattle.rules.specs.Table.{all}
use Rattle.rules.specs.Bytes.{byte, in_range}
use Rattle.rules.specs.Writing.{header_of, heading_fits}
use Rattle.rules.proofs.Table.{bool, and_l, and_r}
use Rattle.rules.proofs.Writing.{ranged}
use Rattle.writing.specs.Meaning.{heading_of}

module _ (n m : ℕ) (o : List ℕ) where
  pub record Fits : Type 0 where
    pub count : length o ≡ m
    pub some_node : 1 ≤ n
    pub nodes : n ≤ max_nodes
    pub some_sheet : 1 ≤ m
    pub sheets : m ≤ max_sheets

  abbrev owned : ℕ → Bool
  owned k = ltb (byte o k) n

  pub fits_has : heading_fits (heading_of n m o) ≡ true → Fits
  fits_has e =
      let h = header_of (heading_of n m o) in
      let c = eqb (length o) m in
      let r = ranged h (and_r c (in_range h) e) in
      record { count = eqb-true (length o) m (and_l c (in_range h) e); some_node = r.some_node; nodes = r.nodes; some_sheet = r.some_sheet; sheets = r.sheets }

  pub unfit : (Fits → ⊥) → false ≡ heading_fits (heading_of n m o)
  unfit f = bool (heading_fits (heading_of n m o)) (λ e. absurd (f (fits_has e))) (λ e. sym e)

  -- the owners decide where the counts are in order
  pub fits_by : Fits → all (length o) owned ≡ heading_fits (heading_of n m o)
  fits_by f =
      rw (eq-eqb (length o) m f.count, le-leb 1 n f.some_node, le-leb n max_nodes f.nodes, le-leb 1 m f.some_sheet, le-leb m max_sheets f.sheets, f.count)
