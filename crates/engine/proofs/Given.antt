-- What the commands that ask for less than the step rely on.
use Prim.Native.Nat.{ℕ, ◌≤◌, ◌<◌}
use mathlib.Core.List.{List}
use native.Mathlib.Omega.{arith}
use lib.ListN.{length}
use Rattle.rules.proofs.Table.{below?}
use Rattle.state.specs.View.{part, ORDER, RUNS}
use Rattle.state.specs.Fit.{Ready}
use Rattle.state.proofs.Parts.{part_past}
use Rattle.copies.specs.Copies.{Copies}

module _ {m : ℕ} {b s q : List ℕ} (r : Ready m b s q) where
  pub few_bytes : ORDER ≤ length b
  few_bytes = let z = r.kept.sized.bytes in omega arith

  pub few_runs : (u : ℕ) → part RUNS 32 b u < 255
  few_runs u = below? u 32 (λ l. r.known.runs u l) (λ l. rw (part_past RUNS 32 b u l) (omega arith))

  pub own_copies : Copies m b s
  own_copies = record { bytes = few_bytes; sets = r.kept.sized.sets; written = r.kept.sets.written }
