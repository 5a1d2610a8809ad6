-- What TAKE does at a last place: entries, the verdict, the rule.
use Rattle.std.specs.Prelude.{ℕ, ◌+◌, ◌*◌, ◌<◌, ◌≡◌, Bool, true, false, ◌&&◌, List, get_or, set}
use Rattle.std.proofs.Math.Option.{some}
use Rattle.rules.specs.Table.{any}
use Rattle.rules.specs.Steps.{rule_met}
use Rattle.sets.specs.Bit.{bit, blocks}
use Rattle.state.specs.View.{part, rule_of, FAILED, BEFORE, QUEUE}
use Rattle.queues.specs.Front.{fronted}
use Rattle.state.specs.declared.Rule.{Rule}
use Rattle.state.specs.declared.Verdict.{Verdict}
use Rattle.state.specs.declared.Verdict.TheVariants.{Valid, Invalid}
use Rattle.entering.specs.Enter.{Entered, ours, ours_x, fails, Held}

-- of the entries at sheet k, and of the X among them, those that stand before save t's
abbrev pub ahead : (q : List ℕ) (t k u : ℕ) → Bool
ahead q t k u = bit (get_or q (QUEUE + 2 * k) 0) u && bit (part BEFORE 32 q t) u

abbrev pub ahead_x : (q : List ℕ) (t k u : ℕ) → Bool
ahead_x q t k u = bit (get_or q (QUEUE + 2 * k + 1) 0) u && bit (part BEFORE 32 q t) u

-- the rule at sheet k, by words that have them: the front one is an X, else there is one
abbrev pub RuleAt : (q : List ℕ) (t k : ℕ) → Rule → Type 0
RuleAt q t k r = (a x : ℕ) → ((u : ℕ) → bit a u ≡ ahead q t k u) → ((u : ℕ) → bit x u ≡ ahead_x q t k u) → some (rule_of r) ≡ rule_met (fronted q a x) (any 64 (bit x)) true

abbrev pub Finds : (m : ℕ) (b q' : List ℕ) (t : ℕ) (test : ℕ → Bool) (b' : List ℕ) → Verdict → Type 0
Finds m b q' t test b' Valid = (b' ≡ b) × ((k : ℕ) → k < m → test k ≡ false)
Finds m b q' t test b' (Invalid c) = (b' ≡ set b (FAILED + t) 1) × (c.sheet < m) × (test c.sheet ≡ true) × ((k : ℕ) → k < c.sheet → test k ≡ false) × RuleAt q' t c.sheet c.rule

pub record Taken (m n t : ℕ) (b s q seen w b' s' q' : List ℕ) (v : Verdict) : Type 0 where
  pub entered : Entered m t (ours s n t) (ours_x s n t) q q'
  pub held : Held m n t (blocks m) s s'
  pub finds : Finds m b q' t (fails m s q seen w n t) b' v
