-- The rule at a sheet, by the entries before the save's own; and what the loops have found at their end.
use Prim.Native.Nat.{ℕ, ◌+◌, ◌*◌, ◌/◌, ◌≤◌, ◌<◌}
use mathlib.Core.Path.{◌≡◌, refl, sym, ◌∙◌}
use mathlib.Core.Bool.{true, ◌&&◌}
use mathlib.Core.List.{List}
use mathlib.Core.Option.{some}
use native.Mathlib.Omega.{arith}
use lib.ListN.{length, get_or, set}
use borrow.Author.Tests.{lt-ltb}
use Rattle.rules.specs.Table.{any}
use Rattle.rules.specs.Steps.{rule_met}
use Rattle.rules.proofs.Table.{and_l, and_r, and_i, any_cong}
use Rattle.sets.specs.Bit.{bit, blocks}
use Rattle.state.specs.View.{part, queued, queued_x, rule_of, BEFORE, FAILED, QUEUE}
use Rattle.state.specs.Fit.{Last, Kept}
use Rattle.state.specs.declared.Rule.{Rule}
use Rattle.state.specs.declared.Verdict.TheVariants.{Valid, Invalid}
use Rattle.state.proofs.Known.{x_queued}
use Rattle.state.proofs.Parts.{part_in, queue_in, queue_x_in}
use Rattle.queues.specs.Front.{Ranked, fronted}
use Rattle.queues.proofs.Fronts.{fronted_same, ranked_within}
use Rattle.std.specs.Prelude.{Option, None, Some}
use Rattle.entering.specs.Enter.{Entered, ours, ours_x, Rowing}
use Rattle.takes.specs.Take.{RuleAt, Taken}
use Rattle.takes.proofs.Keeping.{kept_entered}

-- ---- The words that the code has

module _ (q : List ℕ) (m t k : ℕ) (t32 : t < 32) (km : k < m) (a x : ℕ) (ea : (u : ℕ) → bit a u ≡ (bit (get_or q (QUEUE + 2 * k) 0) u && bit (get_or q (BEFORE + t) 0) u))
    (ex : (u : ℕ) → bit x u ≡ (bit (get_or q (QUEUE + 2 * k + 1) 0) u && bit (get_or q (BEFORE + t) 0) u)) where
  before_t : part BEFORE 32 q t ≡ get_or q (BEFORE + t) 0
  before_t = part_in BEFORE 32 q t t32

  pub ahead_queued : (u : ℕ) → bit a u ≡ true → queued m q k u ≡ true
  ahead_queued u e = rw (queue_in m q k km) (and_l (bit (get_or q (QUEUE + 2 * k) 0) u) (bit (get_or q (BEFORE + t) 0) u) (sym (ea u) ∙ e))

  pub x_ahead : ((u : ℕ) → queued_x m q k u ≡ true → queued m q k u ≡ true) → (u : ℕ) → bit x u ≡ true → bit a u ≡ true
  x_ahead w u e =
      let xu = and_l (bit (get_or q (QUEUE + 2 * k + 1) 0) u) (bit (get_or q (BEFORE + t) 0) u) (sym (ex u) ∙ e) in
      let bu = and_r (bit (get_or q (QUEUE + 2 * k + 1) 0) u) (bit (get_or q (BEFORE + t) 0) u) (sym (ex u) ∙ e) in
      ea u ∙ and_i (bit (get_or q (QUEUE + 2 * k) 0) u) (bit (get_or q (BEFORE + t) 0) u) (rw (queue_in m q k km) at (w u (rw (queue_x_in m q k km) xu))) bu

  -- any words with the same members do
  pub rule_by : (r : Rule) → some (rule_of r) ≡ rule_met (fronted q a x) (any 64 (bit x)) true → RuleAt q t k r
  rule_by r e a₁ x₁ ha hx =
      let sa : (u : ℕ) → bit a₁ u ≡ bit a u = λ u. ha u ∙ rw before_t (sym (ea u)) in
      let sx : (u : ℕ) → bit x₁ u ≡ bit x u = λ u. hx u ∙ rw before_t (sym (ex u)) in
      e ∙ sym (rw (fronted_same q q a a₁ x x₁ refl (λ u l. sa u) (λ u l. sx u), any_cong 64 (bit x₁) (bit x) (λ u l. sx u)))

-- ---- From the loops' end

module _ {m n t : ℕ} {seen w s s' q q' : List ℕ} {first : Option ℕ} (g : Rowing m n t seen w s s' q q' first (blocks m)) where
  all_blocks : Entered m t (ours s n t) (ours_x s n t) q q'
  all_blocks = record {
    long = g.entered.long;
    queue = λ k u l. g.entered.queue k u l ∙ rw (lt-ltb (k / 64) (blocks m) (omega arith));
    queue_x = λ k u l. g.entered.queue_x k u l ∙ rw (lt-ltb (k / 64) (blocks m) (omega arith));
    rest = g.entered.rest;
  }

module _ {m n t : ℕ} {seen w s s' q q' : List ℕ} (b : List ℕ) where
  pub taken_valid : Rowing m n t seen w s s' q q' None (blocks m) → Taken m n t b s q seen w b s' q' Valid
  taken_valid g = record { entered = all_blocks g; held = g.held; finds = (refl, λ k l. g.found k l (omega arith)) }

  module _ {f : ℕ} (g : Rowing m n t seen w s s' q q' (Some f) (blocks m)) where
    pub taken_invalid : (r : Rule) → RuleAt q' t f r → Taken m n t b s q seen w (set b (FAILED + t) 1) s' q' (Invalid (record { sheet = f; rule = r }))
    taken_invalid r e = record {
      entered = all_blocks g;
      held = g.held;
      finds = (refl, g.found.here, g.found.passes, g.found.lower, e);
    }

    -- what the rule's test asks of the queue
    pub rule_asked : Kept m b s q → t < 32 → Last b q t → m < 65536 → (QUEUE + 2 * m ≤ length q') × (m < 65536) × (t < 32) × (f < m)
        × ((a : ℕ) → ((u : ℕ) → bit a u ≡ true → queued m q' f u ≡ true) → Ranked q' a) × ((u : ℕ) → queued_x m q' f u ≡ true → queued m q' f u ≡ true)
    rule_asked kept t32 last m16 =
        let h = g.found.here in
        let now = kept_entered g.held (all_blocks g) t32 kept last in
        (now.sized.queues, m16, t32, h, ranked_within now f h, x_queued now h)
