-- APPLY adds the mark.
use Prim.Native.Nat.{ℕ, ◌+◌}
use mathlib.Core.Path.{◌≡◌, refl, sym, ap, ◌∙◌, fun_ext}
use mathlib.Core.Bool.{Bool, true, false, ◌&&◌, not, cond}
use native.Mathlib.Omega.{arith}
use lib.Dec.{eqb, ltb}
use borrow.Author.Tests.{lt-ltb, le-ltb}
use Rattle.rules.specs.State.{Sheet, store, State}
use Rattle.rules.specs.Bytes.{Apply}
use Rattle.rules.specs.Steps.{receives, apply_save, Checked, pass, refuse, check, accepted, answered, step_by}
use Rattle.rules.specs.Counter.{wct_mark, AddsMarks, AlwaysAddsMarks}
use Rattle.rules.proofs.Storing.{store_adds}

-- a bit that is added raises exactly where it is 1
raised : (w : ℕ) (b : Bool) → ◌≡◌ {A = ℕ} (cond b 1 0) (cond (ltb w (w + cond b 1 0)) 1 0)
raised w true = rw (lt-ltb w (w + 1) (omega arith))
raised w false = rw (le-ltb w (w + 0) (omega arith))

-- a sheet that is stored to, or stays
module _ (c : Sheet) (v : ℕ) where
  abbrev after : Bool → Sheet
  after g = cond g (store c v) c

  abbrev marked : Bool → Bool
  marked g = g && not (eqb v c.content)

  by_mark : (g : Bool) → (after g).wct ≡ c.wct + cond (marked g) 1 0
  by_mark true = store_adds c v
  by_mark false = omega arith

  where_raised : (g : Bool) → ◌≡◌ {A = ℕ} (cond (marked g) 1 0) (cond (ltb c.wct (after g).wct) 1 0)
  where_raised g = raised c.wct (marked g) ∙ ap (λ n. cond (ltb c.wct n) 1 0) (sym (by_mark g))

  content_by : (g : Bool) → (after g).content ≡ cond g v c.content
  content_by true = refl
  content_by false = refl

module _ (s : State) (n t : ℕ) where
  pub adds_marks : AddsMarks s n t (λ k. ((apply_save s n t).sheet k).wct)
  adds_marks = record {
    sum = fun_ext (λ k. by_mark (s.sheet k) (s.copy t k).content (receives s n t k));
    exact = fun_ext (λ k. where_raised (s.sheet k) (s.copy t k).content (receives s n t k));
  }

  -- at one sheet
  pub adds_mark : (k : ℕ) → ((apply_save s n t).sheet k).wct ≡ (s.sheet k).wct + wct_mark s n t k
  adds_mark k = ap (λ (f : ℕ → ℕ). f k) adds_marks.sum

  -- what APPLY makes of a content
  pub content_after : (k : ℕ) → ((apply_save s n t).sheet k).content ≡ cond (receives s n t k) (s.copy t k).content (s.sheet k).content
  content_after k = content_by (s.sheet k) (s.copy t k).content (receives s n t k)

-- an APPLY that is answered was accepted
pub always_adds_marks : AlwaysAddsMarks
always_adds_marks s n t = go (check s (Apply n t))
  where
    go : (x : Checked) → (step_by x s (Apply n t)).result ≡ answered accepted → AddsMarks s n t (λ k. ((step_by x s (Apply n t)).state.sheet k).wct)
    go pass e = adds_marks s n t
    go (refuse m) e = absurd (let z : ◌≡◌ {A = ℕ} 0 1 = cc in omega arith)
