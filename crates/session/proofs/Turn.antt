-- One turn of the loop: what a step's equation with the rules says, of an answer and of a refusal.
use Prim.Native.Nat.{ℕ}
use mathlib.Core.Path.{◌≡◌, refl, ap, ◌∙◌}
use native.Mathlib.Omega.{arith}
use Rattle.rules.specs.Bytes.{Command}
use Rattle.rules.specs.State.{State}
use Rattle.rules.specs.Steps as rules
use Rattle.rules.specs.Steps.{Checked, pass, refuse, check, effect, answered, refused, Stepped, step_by, step}
use Rattle.rules.specs.Calls.{answers}
use Rattle.state.specs.declared.Answer.{Answer}
use Rattle.state.specs.declared.Answer.TheVariants.{Accepted, Content, Took, Commits, CommitsLater, SecondRun, Recommits}
use Rattle.state.specs.View.{result_of}
use Rattle.session.specs.Meaning.{reply_to, value_of}

-- ---- What the answers say

told : (a : Answer) (x : rules.Answer) → result_of a ≡ answered x → answers (value_of (reply_to a)) ≡ answers x
told Accepted x e = cc
told (Content v) x e = cc
told (Took t v) x e = cc
told Commits x e = cc
told CommitsLater x e = cc
told SecondRun x e = cc
told Recommits x e = cc

-- an answer is no refused result
accepts : {P : Type 0} (a : Answer) (n : ℕ) → result_of a ≡ refused n → P
accepts Accepted n e = absurd (let w : ◌≡◌ {A = ℕ} 0 1 = cc in omega arith)
accepts (Content v) n e = absurd (let w : ◌≡◌ {A = ℕ} 0 1 = cc in omega arith)
accepts (Took t v) n e = absurd (let w : ◌≡◌ {A = ℕ} 0 1 = cc in omega arith)
accepts Commits n e = absurd (let w : ◌≡◌ {A = ℕ} 0 1 = cc in omega arith)
accepts CommitsLater n e = absurd (let w : ◌≡◌ {A = ℕ} 0 1 = cc in omega arith)
accepts SecondRun n e = absurd (let w : ◌≡◌ {A = ℕ} 0 1 = cc in omega arith)
accepts Recommits n e = absurd (let w : ◌≡◌ {A = ℕ} 0 1 = cc in omega arith)

-- ---- A step's equation, taken apart

pub record Moved (s s' : State) (c : Command) (a : Answer) : Type 0 where
  pub passed : check s c ≡ pass
  pub state : s' ≡ effect s c
  pub reply : answers (value_of (reply_to a)) ≡ answers (rules.answer s c)

pub record Stayed (s s' : State) (c : Command) (n : ℕ) : Type 0 where
  pub refused : check s c ≡ refuse n
  pub state : s' ≡ s

module _ (s s' : State) (c : Command) where
  pub moved : (a : Answer) → ◌≡◌ {A = Stepped} (record { state = s'; result = result_of a }) (step s c) → Moved s s' c a
  moved a e = go (check s c) refl e
    where
      go : (x : Checked) → check s c ≡ x → ◌≡◌ {A = Stepped} (record { state = s'; result = result_of a }) (step_by x s c) → Moved s s' c a
      go pass q f = record { passed = q; state = ap (λ r. r.state) f; reply = told a (rules.answer s c) (ap (λ r. r.result) f) }
      go (refuse n) q f = accepts a n (ap (λ r. r.result) f)

  pub stayed : (n : ℕ) → ◌≡◌ {A = Stepped} (record { state = s'; result = refused n }) (step s c) → Stayed s s' c n
  stayed n e = go (check s c) refl e
    where
      go : (x : Checked) → check s c ≡ x → ◌≡◌ {A = Stepped} (record { state = s'; result = refused n }) (step_by x s c) → Stayed s s' c n
      go pass q f = let r : refused n ≡ answered (rules.answer s c) = ap (λ r. r.result) f in absurd (let w : ◌≡◌ {A = ℕ} 0 1 = cc in omega arith)
      go (refuse m) q f = let r : refused n ≡ refused m = ap (λ r. r.result) f in let w : m ≡ n = cc in record { refused = q ∙ ap refuse w; state = ap (λ r. r.state) f }
