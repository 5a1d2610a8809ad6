-- WRITE by the code's own names.
use Prim.Native.Nat.{ℕ, ◌+◌, ◌*◌, ◌/◌, ◌%◌, ◌≤◌, ◌<◌}
use mathlib.Core.Path.{◌≡◌, refl, ◌∙◌}
use mathlib.Core.Bool.{Bool, true, false, ◌||◌}
use mathlib.Core.List.{List}
use native.Mathlib.Omega.{arith}
use lib.ListN.{length, set}
use lib.Dec.{eqb}
use Rattle.rules.specs.Bytes.{Write}
use Rattle.sets.specs.Bit.{bit, word, in_row, stride}
use Rattle.std.specs.Prelude.{Ok, Err}
use Rattle.refusals.specs.declared.Refusal.TheVariants.{NoCopy}
use Rattle.state.specs.declared.Answer.TheVariants.{Accepted}
use Rattle.state.specs.View.{in_set, COPIED, WRITTEN, rows}
use Rattle.state.specs.Stored.{Stored}
use Rattle.state.specs.Fit.{Table}
use Rattle.state.specs.Lent.{writing}
use Rattle.state.proofs.Lending.{Moves, Keeps}
use Rattle.copies.specs.Barred.{barred_by}
use Rattle.copies.specs.Copies.{Copies}
use Rattle.copies.proofs.Joining.{joined}
use Rattle.copies.proofs.Marks.{row_in, table_set, word_in, kept_written}
use Rattle.copies.proofs.Copying.{copied_read, in_range, write_7, writes}

module _ (m : ℕ) (b s value : List ℕ) (t k : ℕ) (pre : Copies m b s × Table 32 m value) (z : barred_by m b t k ≡ 0) where
  e : barred_by m b t k ≡ barred_by m b t k
  e = refl

  there : (t < 32) × (k < m)
  there = in_range m b t k e z

  pub copy_asked : (t < 32) × (COPIED + t + stride * (k / 64) < length s)
  copy_asked = let h = there in (h.0, word_in m (COPIED + t) k s (omega (arith, h.0)) h.1 pre.0.sets)

  pub cell_fits : (t * m + m ≤ length value) × (k < m)
  cell_fits = (row_in 32 m value t there.0 pre.1, there.1)

  pub insert_fits : (WRITTEN + t < rows) × (WRITTEN + t + stride * (k / 64) < length s)
  insert_fits = let h = there in (omega (arith, h.0), word_in m (WRITTEN + t) k s (omega (arith, h.0)) h.1 pre.0.sets)

  module _ (v : ℕ) {c : Bool} (ec : c ≡ in_row s (COPIED + t) k) where
    copy : in_set m COPIED s t k ≡ c
    copy = copied_read m s t k there.0 there.1 ec

    pub no_copy : c ≡ false → Moves m (writing b s value) (Write t k v) (writing b s value) (Err NoCopy)
    no_copy n x = write_7 m (writing b s value x) t k e z v pre.0.written (copy ∙ n)

    module _ (y : c ≡ true) {s' value' : List ℕ} (ev : value' ≡ set value (t * m + k) v)
        (es : Stored (WRITTEN + t + stride * (k / 64)) (λ i. bit (word s (WRITTEN + t) (k / 64)) i || eqb i (k % 64)) s s') where
      moved : Moves m (writing b s value) (Write t k v) (writing b s' value') (Ok Accepted)
      moved x = rw ev (writes m (writing b s value x) t k e z v (copy ∙ y) pre.1 (joined insert_fits.0 there.1 es))

      kept : Keeps m (writing b s value) (writing b s' value')
      kept x f = record {
        kept = kept_written there.0 (joined insert_fits.0 there.1 es) (copy ∙ y) f.kept;
        value = rw ev (table_set 32 m value (t * m + k) v f.value);
        seen = f.seen;
        sheets = f.sheets;
      }

      pub wrote : Moves m (writing b s value) (Write t k v) (writing b s' value') (Ok Accepted) × Keeps m (writing b s value) (writing b s' value')
      wrote = (moved, kept)
