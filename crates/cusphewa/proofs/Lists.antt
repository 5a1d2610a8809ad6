-- Writing and reading as the host sees them.
use Prim.Native.Nat.{ℕ, ◌+◌, ◌*◌}
use mathlib.Core.Path.{◌≡◌, refl}
use mathlib.Core.List.{List}
use native.Mathlib.Omega.{arith}
use Rattle.rules.specs.Writing.{Call, owners_part, ReadWritten, ReadRun, FewSteps}
use Rattle.rules.specs.Writing as lists
use Rattle.rules.specs.Agreeing.{Agrees}
use Rattle.rules.proofs.Writing.{read_written, read_run}
use Rattle.rules.proofs.Agreeing.{always_agrees}
use Rattle.rules.proofs.Few.{few_steps}
use Rattle.std.specs.Prelude.{Some, None}
use Rattle.wire.specs.declared.Header.{Header}
use Rattle.wire.specs.Meaning.{opened}
use Rattle.wire.proofs.Opening.{opening, unopened, few_sheets}
use Rattle.cusphewa.proofs.Laws.{PartTold, part_told}

-- what is said of every session of bytes that is read
pub of_bytes : (b : List ℕ) → lists.Bytes b → ReadWritten b × (ReadRun b × (Agrees b × FewSteps b))
of_bytes b h = (read_written b h, (read_run b, (always_agrees b h, few_steps b)))

-- ---- The owners

pub no_owners : (b : List ℕ) → opened b ≡ None → PartTold 0 (owners_part b)
unfolding owners_part
no_owners b e = rw (unopened b e) (part_told (record { from = 0; size = 0 }) (omega arith) refl)

pub owners_at : (b : List ℕ) (h : Header) → opened b ≡ Some h → PartTold (2 * 4294967296 + h.sheets) (owners_part b)
unfolding owners_part
owners_at b h e = let o = opening b h e in rw (o.opened_well, ← o.sheets_are) (part_told (record { from = 2; size = h.sheets }) (omega (arith, few_sheets o)) refl)
