-- A list of tests: where no refusal is given every test passed, and back. What a command passed is asked for by the refusal's number, so
-- that a test of another number put in moves no proof which asks.
use Prim.Native.Nat.{ℕ}
use native.Mathlib.Omega.{arith}
use mathlib.Core.Path.{◌≡◌, refl, sym, ◌∙◌}
use mathlib.Core.Bool.{Bool, true, not, ◌&&◌, cond, true≢false}
use mathlib.Core.Logic.{◌≢◌}
use borrow.Author.Tests.{eq-eqb}
use mathlib.Core.List.{List, [], ◌∷◌}
use lib.Dec.{eqb}
use Rattle.rules.specs.Steps.{Test, pass, refuse, first_failed}
use Rattle.rules.proofs.Table.{bool}

abbrev pub Passed : List Test → Type 0
Passed [] = Unit {0}
Passed (g ∷ gs) = (g.passes ≡ true) × Passed gs

pub refuse_pass : {P : Type 0} (n : ℕ) → refuse n ≡ pass → P
refuse_pass n e = absurd (let z : ◌≡◌ {A = ℕ} 0 1 = cc in omega arith)

passed : (gs : List Test) → first_failed gs ≡ pass → Passed gs
passed [] e = tt
passed (g ∷ gs) e = bool g.passes (λ q. (q, passed gs (rw q at e))) (λ q. refuse_pass g.number (rw q at e))

-- the tests that give number n
abbrev pub asked : ℕ → List Test → List Test
asked n [] = []
asked n (g ∷ gs) = cond (eqb g.number n) (g ∷ asked n gs) (asked n gs)

pub passed_asked : (gs : List Test) → first_failed gs ≡ pass → (n : ℕ) → Passed (asked n gs)
passed_asked gs e n = go gs (passed gs e)
  where
    go : (gs : List Test) → Passed gs → Passed (asked n gs)
    go [] p = tt
    go (g ∷ gs) p = bool (eqb g.number n) (λ q. rw q (p.0, go gs p.1)) (λ q. rw q (go gs p.1))

-- the way a command is shown to be accepted
pub passes : (gs : List Test) → Passed gs → first_failed gs ≡ pass
passes [] p = refl
passes (g ∷ gs) p = rw p.0 (passes gs p.1)

-- a refusal that no test names is never given
abbrev pub unnamed : ℕ → List Test → Bool
unnamed n [] = true
unnamed n (g ∷ gs) = not (eqb g.number n) && unnamed n gs

pub never : (n : ℕ) (gs : List Test) → unnamed n gs ≡ true → first_failed gs ≢ refuse n
never n [] a e = refuse_pass n (sym e)
never n (g ∷ gs) a e = bool (eqb g.number n) (λ q. true≢false (sym (rw q at a)))
    (λ q. bool g.passes (λ r. never n gs (rw q at a) (rw r at e))
    (λ r. let z : refuse g.number ≡ refuse n = rw r at e in let y : g.number ≡ n = cc in true≢false (sym (eq-eqb g.number n y) ∙ q)))
