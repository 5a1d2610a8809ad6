-- "Counter step without a branch": document 02 [5]. APPLY adds a mark to the WCT of each sheet; that this is APPLY's rule, document 01's with
-- document 02 [6], follows from the definitions (proofs/Counter.antt).
use Rattle.std.specs.Prelude.{ℕ, ◌+◌, ◌≡◌, Bool, ◌&&◌, not, cond, eqb, ltb}
use Rattle.rules.specs.State.{State}
use Rattle.rules.specs.Bytes.{Apply}
use Rattle.rules.specs.Steps.{receives, apply_save, accepted, answered, step}

-- "a mark, 0 or 1": what node n's APPLY of save t adds to sheet k's WCT. It is 0 where the content is equal to the one there.
abbrev pub wct_mark : State → (n t k : ℕ) → ℕ
wct_mark s n t k = cond (receives s n t k && not (eqb (s.copy t k).content (s.sheet k).content)) 1 0

-- APPLY, by its rule, raises sheet k's WCT
abbrev pub raises : State → (n t k : ℕ) → Bool
raises s n t k = ltb (s.sheet k).wct ((apply_save s n t).sheet k).wct

-- Of the WCTs that an APPLY left, "as one equation over all these sheets": "the WCT after is the WCT before plus the mark", and "the mark is 1 exactly where
-- document 01's APPLY", with document 02 [6], "raises the WCT". It is said of a save in any phase and of every sheet number; at another node's sheet, whose WCT
-- APPLY leaves, the mark is 0.
pub record AddsMarks (s : State) (n t : ℕ) (after : ℕ → ℕ) : Type 0 where
  pub sum : after ≡ (λ k. (s.sheet k).wct + wct_mark s n t k)
  pub exact : wct_mark s n t ≡ (λ k. cond (raises s n t k) 1 0)

-- every APPLY that is accepted, in every state
abbrev pub AlwaysAddsMarks : Type 0
AlwaysAddsMarks = (s : State) (n t : ℕ) → (step s (Apply n t)).result ≡ answered accepted → AddsMarks s n t (λ k. ((step s (Apply n t)).state.sheet k).wct)
