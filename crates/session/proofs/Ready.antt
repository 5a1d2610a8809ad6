-- What a step relies on, in the states of a session.
use Prim.Native.Nat.{ℕ, ◌≤◌, ◌<◌}
use mathlib.Core.Path.{◌≡◌}
use mathlib.Core.Bool.{true}
use mathlib.Core.List.{List}
use Rattle.rules.specs.Sizes.{max_commands}
use Rattle.rules.specs.Bytes.{header, opens}
use Rattle.rules.specs.State.{State}
use Rattle.rules.proofs.Reached.{Reached}
use Rattle.wire.proofs.Headers.{opens_has, owner_small}
use Rattle.state.specs.Fit.{Known}
use Rattle.state.proofs.Reaching as reaching

module _ (b : List ℕ) (o : opens b ≡ true) (s : State) (r : Reached s) (h : s.header ≡ header b) (few : s.tally.accepted ≤ max_commands) where
  pub known : Known s
  known = reaching.known s r (rw h (opens_has b o).0.nodes) (rw h (opens_has b o).0.sheets) (λ k. rw h (owner_small b o k)) few

  pub rises : (k : ℕ) → (s.sheet k).wct < 65535
  rises = reaching.rises s r (rw h (opens_has b o).0.nodes) (rw h (opens_has b o).0.sheets) (λ k. rw h (owner_small b o k)) few
