-- A refusal that `map_err` tells with its place.
use mathlib.Core.Path.{◌≡◌, refl}
use Rattle.std.specs.Prelude.{Result, Ok, Err, MatchResult, IsErrAnd}

module _ {T E D : Type 0} where
  pub mapped_ok : (r : Result T E) (s : Result T D) (x : T) (Q : E → D → Type 0) → s ≡ Ok x → MatchResult r (λ y. s ≡ Ok y) (λ e. IsErrAnd s (Q e)) → r ≡ Ok x
  mapped_ok (Ok y) s x Q e m = cc
  mapped_ok (Err d) s x Q e m = absurd (rw e at m)

  pub mapped_err : (r : Result T E) (s : Result T D) (d : D) (Q : E → D → Type 0) → s ≡ Err d → MatchResult r (λ y. s ≡ Ok y) (λ e. IsErrAnd s (Q e)) → (e : E) × ((r ≡ Err e) × Q e d)
  mapped_err (Ok y) s d Q e m = cc
  mapped_err (Err w) s d Q e m = (w, (refl, rw e at m))
