-- A save without its copies: what the sets show, and keep.
use Prim.Native.Nat.{ℕ, ◌+◌, ◌/◌, ◌%◌, ◌<◌}
use mathlib.Core.Path.{◌≡◌, sym, ap, ◌∙◌}
use mathlib.Core.Bool.{false}
use mathlib.Core.Logic.{◌≢◌}
use mathlib.Core.List.{List}
use native.Mathlib.Omega.{arith}
use Rattle.rules.specs.State.{Mark, absent}
use Rattle.rules.specs.Table.{row}
use Rattle.rules.proofs.Table.{same?, below?, clash}
use Rattle.sets.specs.Bit.{bit, word, in_row, blocks}
use Rattle.sets.proofs.Bits.{bit_none}
use Rattle.state.specs.View.{mark_of, in_set, COPIED, WRITTEN}
use Rattle.state.specs.Fit.{Kept, Ends}
use Rattle.state.proofs.Keeping.{Beside, kept_beside}
use Rattle.state.proofs.Parts.{member_same, in_block}
use Rattle.state.proofs.Rows.{set_row, set_none, set_by}
use Rattle.state.proofs.Tables.{row_by}
use Rattle.decides.specs.Settling.{Cleared}

module _ (m t : ℕ) (s s' : List ℕ) (t32 : t < 32) (g : Cleared (blocks m) t s s') where
  pub beside : Beside m s s'
  beside = record { same = λ r k a b. member_same m s s' r k (λ j _. g.rest r j b (λ e. omega arith) (λ e. omega arith)) }

  -- save t's row of the two has no sheet, another save's is as it was
  row_none : (r : ℕ) → ((j : ℕ) → j < blocks m → word s' (r + t) j ≡ 0) → (k : ℕ) → in_set m r s' t k ≡ false
  unfolding in_row
  row_none r z k = below? k m
      (λ h. set_row m s' r t32 k h ∙ ap (λ (x : ℕ). bit x (k % 64)) (z (k / 64) (in_block m k h)) ∙ bit_none (k % 64))
      (set_none m s' r t32 k)

  copied_other : (u k : ℕ) → u ≢ t → in_set m COPIED s' u k ≡ in_set m COPIED s u k
  copied_other u k d = set_by m s s' COPIED u k (λ h j _. g.rest (COPIED + u) j (omega arith) (λ e. d (omega arith)) (λ e. omega arith))

  written_other : (u k : ℕ) → u ≢ t → in_set m WRITTEN s' u k ≡ in_set m WRITTEN s u k
  written_other u k d = set_by m s s' WRITTEN u k (λ h j _. g.rest (WRITTEN + u) j (omega arith) (λ e. omega arith) (λ e. d (omega arith)))

  pub marks_cleared : ◌≡◌ {A = ℕ → ℕ → Mark} (λ u k. mark_of (in_set m COPIED s' u k) (in_set m WRITTEN s' u k)) (row (λ u k. mark_of (in_set m COPIED s u k) (in_set m WRITTEN s u k)) t (λ k. absent))
  marks_cleared = row_by (λ u k. mark_of (in_set m COPIED s' u k) (in_set m WRITTEN s' u k)) (λ u k. mark_of (in_set m COPIED s u k) (in_set m WRITTEN s u k)) t (λ k. absent)
      (λ k. rw (row_none COPIED g.copied k, row_none WRITTEN g.written k))
      (λ u k d. rw (copied_other u k d, written_other u k d))

  ends_kept : Ends m s → Ends m s'
  ends_kept f i j c l h c64 o = same? i (COPIED + t)
      (λ e. rw (e, g.copied j h) (bit_none c))
      (λ a. same? i (WRITTEN + t) (λ e. rw (e, g.written j h) (bit_none c)) (λ w. rw (g.rest i j l a w) (f i j c l h c64 o)))

  pub kept_cleared : {b q : List ℕ} → Kept m b s q → Kept m b s' q
  kept_cleared f = kept_beside beside g.long
      (λ u k e. same? u t
      (λ z. clash (in_set m WRITTEN s' u k) e (rw z (row_none WRITTEN g.written k)))
      (λ d. copied_other u k d ∙ f.sets.written u k (sym (written_other u k d) ∙ e)))
      (ends_kept f.sets.ends) f
