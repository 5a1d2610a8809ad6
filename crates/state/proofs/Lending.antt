-- What a command does to the tables that it changes, whatever the others are.
use Prim.Native.Nat.{ℕ}
use mathlib.Core.Path.{refl, ◌∙◌}
use Rattle.std.specs.Prelude.{Result}
use Rattle.rules.specs.Bytes.{Command}
use Rattle.refusals.specs.declared.Refusal.{Refusal}
use Rattle.state.specs.Slices.{Slices}
use Rattle.state.specs.View.{shown}
use Rattle.state.specs.Fit.{Fit}
use Rattle.state.specs.Lent.{Lent, Same, Steps}
use Rattle.state.specs.declared.Answer.{Answer}
use Rattle.state.specs.declared.Session.{Session}

abbrev pub Moves : ℕ → (before : Lent) → Command → (after : Lent) → Result Answer Refusal → Type 0
Moves m before c after r = (x : Slices) → Steps (shown m (before x)) c (shown m (after x)) r

abbrev pub Keeps : ℕ → (before after : Lent) → Type 0
Keeps m before after = (x : Slices) → Fit m (before x) → Fit m (after x)

-- ---- Nothing changed, and one after the other

pub same_first : (x : Session) → Same x x
same_first x = (refl, refl, refl, refl, refl, refl, refl, refl, refl, refl, refl, refl, refl)

pub same_on : (x y z : Session) → Same x y → Same y z → Same x z
same_on x y z a b = (b.0 ∙ a.0, b.1 ∙ a.1, b.2 ∙ a.2, b.3 ∙ a.3, b.4 ∙ a.4, b.5 ∙ a.5, b.6 ∙ a.6, b.7 ∙ a.7, b.8 ∙ a.8, b.9 ∙ a.9, b.10 ∙ a.10, b.11 ∙ a.11, b.12 ∙ a.12)
