-- The exam desk's table follows from the tests: the operands' first, then those of the phase, then the others.
use Prim.Native.Nat.{ℕ}
use mathlib.Core.Path.{◌≡◌, refl}
use mathlib.Core.Bool.{Bool, true, false, not, ◌&&◌, cond}
use mathlib.Core.Logic.{◌≢◌}
use mathlib.Core.List.{List, [], ◌∷◌}
use lib.ListN.{drop}
use lib.Dec.{eqb, ltb}
use borrow.Author.Tests.{eqb-true}
use Rattle.rules.specs.Sizes.{max_saves}
use Rattle.rules.specs.Bytes.{Begin, Read, Write, Submit, Take, Decide, Apply, GiveUp}
use Rattle.rules.specs.State.{Phase, unused, first, submitted, second, committed, dropped, is_unused, is_submitted, running, over}
use Rattle.rules.specs.Steps.{Test, Checked, pass, refuse, first_failed, tests}
use Rattle.rules.specs.WhichPhase.{by, told, Tabled}
use Rattle.rules.proofs.Table.{bool, and_l, and_r}

-- an operand's test
in_range : (b : Bool) (rest : Checked) {n : ℕ} → (rest ≢ refuse 4 → told rest ≡ n) → cond b rest (refuse 4) ≢ refuse 4 → told (cond b rest (refuse 4)) ≡ n
in_range true rest f o = f o
in_range false rest f o = absurd (o refl)

-- tests of which none gives a number of the phase
abbrev of_others : List Test → Bool
of_others [] = true
of_others (g ∷ gs) = eqb (told (refuse g.number)) 0 && of_others gs

others_quiet : (gs : List Test) → of_others gs ≡ true → told (first_failed gs) ≡ 0
others_quiet [] o = refl
others_quiet (g ∷ gs) o =
    bool g.passes
    (λ e. rw e (others_quiet gs (and_r (eqb (told (refuse g.number)) 0) (of_others gs) o)))
    (λ e. rw e (eqb-true (told (refuse g.number)) 0 (and_l (eqb (told (refuse g.number)) 0) (of_others gs) o)))

module _ (gs : List Test) (others : of_others gs ≡ true) where
  abbrev rest : Checked
  rest = first_failed gs

  quiet : told rest ≡ 0
  quiet = others_quiet gs others

  runs : (p : Phase) → told (cond (not (is_unused p)) (cond (not (over p)) (cond (running p) rest (refuse 5)) (refuse 14)) (refuse 13)) ≡ by 13 0 5 0 14 14 p
  runs unused = refl
  runs first = quiet
  runs submitted = refl
  runs second = quiet
  runs committed = refl
  runs dropped = refl

  waits : (p : Phase) → told (cond (not (is_unused p)) (cond (not (over p)) (cond (is_submitted p) rest (refuse 5)) (refuse 14)) (refuse 13)) ≡ by 13 5 0 5 14 14 p
  waits unused = refl
  waits first = refl
  waits submitted = quiet
  waits second = refl
  waits committed = refl
  waits dropped = refl

  is_over : (p : Phase) → told (cond (not (is_unused p)) (cond (over p) rest (refuse 5)) (refuse 13)) ≡ by 13 5 5 5 0 0 p
  is_over unused = refl
  is_over first = refl
  is_over submitted = refl
  is_over second = refl
  is_over committed = quiet
  is_over dropped = quiet

begins : (p : Phase) → told (cond (not (over p)) (cond (is_unused p) pass (refuse 5)) (refuse 14)) ≡ by 0 5 5 5 14 14 p
begins unused = refl
begins first = refl
begins submitted = refl
begins second = refl
begins committed = refl
begins dropped = refl

pub tabled : Tabled
tabled s (Begin t) = in_range (ltb t max_saves) _ (λ _. begins (s.phase t))
tabled s (Read t k) = in_range (ltb t max_saves) _ (in_range (ltb k s.header.sheets) _ (λ _. runs (drop 5 (tests s (Read t k))) refl (s.phase t)))
tabled s (Write t k v) = in_range (ltb t max_saves) _ (in_range (ltb k s.header.sheets) _ (λ _. runs (drop 5 (tests s (Write t k v))) refl (s.phase t)))
tabled s (Submit t) = in_range (ltb t max_saves) _ (λ _. runs [] refl (s.phase t))
tabled s (Take n) = in_range (ltb n s.header.nodes) _ (λ _. others_quiet (drop 1 (tests s (Take n))) refl)
tabled s (Decide t) = in_range (ltb t max_saves) _ (λ _. waits (drop 4 (tests s (Decide t))) refl (s.phase t))
tabled s (Apply n t) = in_range (ltb n s.header.nodes) _ (in_range (ltb t max_saves) _ (λ _. is_over (drop 4 (tests s (Apply n t))) refl (s.phase t)))
tabled s (GiveUp t) = in_range (ltb t max_saves) _ (λ _. runs [] refl (s.phase t))
