-- An entry is granted exactly where it waits for none.
use Prim.Native.Nat.{ℕ}
use mathlib.Core.Path.{◌≡◌, refl}
use mathlib.Core.Bool.{Bool, true, not}
use mathlib.Core.List.{List, [], ◌∷◌}
use native.Mathlib.Omega.{arith}
use Rattle.rules.specs.State.{Claim, unclaimed, shared, exclusive, claims}
use Rattle.rules.specs.Steps.{holds, empty, before, x_on, granted_as}
use Rattle.rules.specs.Showing.{ways, GrantedAlone}
use Rattle.rules.proofs.Table.{bool}

module _ (x : ℕ → Bool) where
  shared_ways : (ahead : List ℕ) → not (holds x ahead) ≡ empty (ways shared x ahead)
  unfolding ways
  shared_ways [] = refl
  shared_ways (u ∷ us) = bool (x u) (λ e. rw e) (λ e. rw e (shared_ways us))

  all_ways : (ahead : List ℕ) → empty ahead ≡ empty (ways exclusive x ahead)
  unfolding ways
  all_ways [] = refl
  all_ways (u ∷ us) = refl

  by_claim : (c : Claim) (ahead : List ℕ) → claims c ≡ true → granted_as c x ahead ≡ empty (ways c x ahead)
  by_claim unclaimed ahead h = absurd (let z : ◌≡◌ {A = ℕ} 0 1 = cc in omega arith)
  by_claim shared ahead h = shared_ways ahead
  by_claim exclusive ahead h = all_ways ahead

pub granted_alone : GrantedAlone
granted_alone s t k h = by_claim (x_on s.claim k) (s.claim t k) (before t (s.queue k)) h
