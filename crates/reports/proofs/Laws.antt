-- The report call's needs, each as one law in plain variables.
use Prim.Native.Nat.{ℕ, ◌≤◌, ◌<◌}
use mathlib.Core.Path.{◌≡◌, sym, ap, ◌∙◌}
use mathlib.Core.List.{List}
use native.Mathlib.Omega.{arith}
use borrow.Author.Tests.{lt-ltb, le-ltb}
use lib.ListN.{length}
use Rattle.rules.specs.Sizes.{min_buffer}
use Rattle.rules.specs.Report.{stop_line, refusal_line, report, Filled, report_call}
use Rattle.rules.proofs.Few.{only_twelve}
use Rattle.rules.proofs.Sessions.{report_unopened}
use Rattle.std.specs.Prelude.{None}
use Rattle.wire.specs.Meaning.{opened}
use Rattle.wire.proofs.Opening.{unopened}
use Rattle.text.specs.Wrote.{Wrote}
use Rattle.text.proofs.Writing.{wrote_front}

-- refusal 1
pub report_bad : (b : List ℕ) → opened b ≡ None → refusal_line 0 1 ≡ report b
unfolding stop_line
report_bad b e = sym (report_unopened b (unopened b e))

-- ---- The buffer

module _ (b l : List ℕ) where
  pub short_buffer : length l < min_buffer → ◌≡◌ {A = Filled} (record { size = 0; buffer = l }) (report_call b l)
  unfolding report_call
  short_buffer h = rw (lt-ltb (length l) min_buffer h)

  pub filled : {m x : List ℕ} {r u : ℕ} → min_buffer ≤ length l → u ≤ min_buffer → x ≡ report b → Wrote l 0 x u r m → ◌≡◌ {A = Filled} (record { size = r; buffer = m }) (report_call b l)
  unfolding report_call
  filled h k e w = wrote_front w (omega arith) ∙ rw (le-ltb (length l) min_buffer h, e)

  -- length 0 is 12's
  pub not_empty : {r : ℕ} {m : List ℕ} → ◌≡◌ {A = Filled} (record { size = r; buffer = m }) (report_call b l) → r ≡ 0 → length l < min_buffer
  not_empty e z = only_twelve b l (ap (λ (x : Filled). x.size) (sym e) ∙ z)
