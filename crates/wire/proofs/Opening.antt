-- What is known of a session by what the header reader answers.
use Prim.Native.Nat.{ℕ, ◌+◌, ◌-◌, ◌≤◌}
use mathlib.Core.Path.{◌≡◌}
use mathlib.Core.Bool.{true, false}
use mathlib.Core.List.{List}
use native.Mathlib.Omega.{arith}
use lib.ListN.{length, take, drop}
use Rattle.rules.specs.Sizes.{max_sheets}
use Rattle.rules.specs.Bytes.{opens, byte}
use Rattle.rules.proofs.Table.{bool}
use Rattle.std.specs.Prelude.{Some, None}
use Rattle.wire.specs.declared.Header.{Header}
use Rattle.wire.specs.Meaning.{opened}
use Rattle.wire.proofs.Headers.{opens_has, owners_length}

pub record Opening (b : List ℕ) (nodes sheets : ℕ) : Type 0 where
  pub opened_well : opens b ≡ true
  pub nodes_are : nodes ≡ byte b 0
  pub sheets_are : sheets ≡ byte b 1

pub opening : (b : List ℕ) (h : Header) → opened b ≡ Some h → Opening b h.nodes h.sheets
unfolding opened
opening b h e =
    bool (opens b)
    (λ o. let f : Some (record { nodes = byte b 0; sheets = byte b 1 }) ≡ Some h = rw o at e in record { opened_well = o; nodes_are = cc; sheets_are = cc })
    (λ o. let f : None ≡ Some h = rw o at e in cc)

module _ {b : List ℕ} {nodes sheets : ℕ} (o : Opening b nodes sheets) where
  pub header_within : 2 + sheets ≤ length b
  header_within = rw o.sheets_are (opens_has b o.opened_well).0.fits

  pub few_sheets : sheets ≤ max_sheets
  few_sheets = rw o.sheets_are (opens_has b o.opened_well).0.sheets

  -- the owners, behind the two counts
  pub owners_part : take (2 + sheets - 2) (drop 2 b) ≡ take sheets (drop 2 b)
  owners_part = let e : 2 + sheets - 2 ≡ sheets = omega arith in rw e

  pub owners_many : length (take (2 + sheets - 2) (drop 2 b)) ≡ sheets
  owners_many = rw (owners_part, o.sheets_are) (owners_length b o.opened_well)

-- ---- Refusal 1

pub unopened : (b : List ℕ) → opened b ≡ None → opens b ≡ false
unfolding opened
unopened b e = bool (opens b) (λ o. let f : Some (record { nodes = byte b 0; sheets = byte b 1 }) ≡ None = rw o at e in cc) (λ o. o)
