-- What the bytes show of the saves, and what a byte stored makes of it.
use Prim.Native.Nat.{ℕ, ◌+◌, ◌≤◌, ◌<◌}
use mathlib.Core.Path.{◌≡◌, refl, sym, ap, ◌∙◌}
use mathlib.Core.Bool.{Bool, false, ◌||◌, or-false}
use mathlib.Core.List.{List}
use native.Mathlib.Omega.{arith}
use lib.ListN.{length, get_or, set, take, length-set}
use lib.Seq.{get_or-set_other}
use Rattle.rules.specs.State.{Phase, Tally}
use Rattle.rules.specs.Steps.{with_saves}
use Rattle.rules.specs.Table.{upd}
use Rattle.rules.proofs.Places.{entries}
use Rattle.state.specs.Slices.{Slices}
use Rattle.state.specs.View.{as_phase, set?, part, owner_in, placed, place_in, order_in, queued, shown, PHASE, FAILED, RUNS, NODES, ORDER}
use Rattle.state.specs.Lent.{own}
use Rattle.state.proofs.Known.{order_same}
use Rattle.state.proofs.Parts.{part_apart, part_set, part_view}
use Rattle.state.proofs.Steps.{same_state}
use Rattle.state.proofs.Tables.{upd_by}

abbrev pub phase_in : List ℕ → ℕ → Phase
phase_in b u = as_phase (part PHASE 32 b u)

abbrev pub failed_in : List ℕ → ℕ → Bool
failed_in b u = set? (part FAILED 32 b u)

-- b' shows these phases, failed marks and numbers of runs, and else what b shows
pub record Bytes (b b' : List ℕ) (phase : ℕ → Phase) (failed : ℕ → Bool) (runs : ℕ → ℕ) : Type 0 where
  pub long : length b' ≡ length b
  pub nodes : get_or b' NODES 0 ≡ get_or b NODES 0
  pub phased : phase_in b' ≡ phase
  pub marked : failed_in b' ≡ failed
  pub counted : part RUNS 32 b' ≡ runs
  pub order : order_in b' ≡ order_in b

pub bytes_same : (b : List ℕ) → Bytes b b (phase_in b) (failed_in b) (part RUNS 32 b)
bytes_same b = record { long = refl; nodes = refl; phased = refl; marked = refl; counted = refl; order = refl }

-- ---- One of save t's stored

module _ {b b' : List ℕ} {phase : ℕ → Phase} {failed : ℕ → Bool} {runs : ℕ → ℕ} (g : Bytes b b' phase failed runs) (long : ORDER ≤ length b) {t : ℕ} (t32 : t < 32) (v : ℕ) where
  pub phase_stored : Bytes b (set b' (PHASE + t) v) (upd phase t (as_phase v)) failed runs
  phase_stored = record {
    long = length-set b' (PHASE + t) v ∙ g.long;
    nodes = get_or-set_other b' (PHASE + t) NODES v 0 (λ e. omega arith) ∙ g.nodes;
    phased = part_view PHASE 32 as_phase b' t v t32 (rw g.long (omega arith)) ∙ ap (λ (p : ℕ → Phase). upd p t (as_phase v)) g.phased;
    marked = ap {B = ℕ → Bool} (λ (p : ℕ → ℕ) u. set? (p u)) (part_apart FAILED 32 b' (PHASE + t) v (λ i h e. omega arith)) ∙ g.marked;
    counted = part_apart RUNS 32 b' (PHASE + t) v (λ i h e. omega arith) ∙ g.counted;
    order = order_same b' (PHASE + t) v (omega arith) ∙ g.order;
  }

  pub mark_stored : Bytes b (set b' (FAILED + t) v) phase (upd failed t (set? v)) runs
  mark_stored = record {
    long = length-set b' (FAILED + t) v ∙ g.long;
    nodes = get_or-set_other b' (FAILED + t) NODES v 0 (λ e. omega arith) ∙ g.nodes;
    phased = ap {B = ℕ → Phase} (λ (p : ℕ → ℕ) u. as_phase (p u)) (part_apart PHASE 32 b' (FAILED + t) v (λ i h e. omega arith)) ∙ g.phased;
    marked = part_view FAILED 32 set? b' t v t32 (rw g.long (omega arith)) ∙ ap (λ (p : ℕ → Bool). upd p t (set? v)) g.marked;
    counted = part_apart RUNS 32 b' (FAILED + t) v (λ i h e. omega arith) ∙ g.counted;
    order = order_same b' (FAILED + t) v (omega arith) ∙ g.order;
  }

  pub runs_stored : Bytes b (set b' (RUNS + t) v) phase failed (upd runs t v)
  runs_stored = record {
    long = length-set b' (RUNS + t) v ∙ g.long;
    nodes = get_or-set_other b' (RUNS + t) NODES v 0 (λ e. omega arith) ∙ g.nodes;
    phased = ap {B = ℕ → Phase} (λ (p : ℕ → ℕ) u. as_phase (p u)) (part_apart PHASE 32 b' (RUNS + t) v (λ i h e. omega arith)) ∙ g.phased;
    marked = ap {B = ℕ → Bool} (λ (p : ℕ → ℕ) u. set? (p u)) (part_apart FAILED 32 b' (RUNS + t) v (λ i h e. omega arith)) ∙ g.marked;
    counted = part_set RUNS 32 b' t v t32 (rw g.long (omega arith)) ∙ ap (λ (p : ℕ → ℕ). upd p t v) g.counted;
    order = order_same b' (RUNS + t) v (omega arith) ∙ g.order;
  }

-- a mark that stands
pub marks_same : (failed : ℕ → Bool) (t : ℕ) → failed ≡ upd failed t (failed t || false)
marks_same failed t = upd_by failed failed t (failed t || false) (sym (or-false (failed t))) (λ u d. refl)

-- ---- The state that they show, where no failed mark has changed

pub bytes_shown : {b b' : List ℕ} {phase : ℕ → Phase} {runs : ℕ → ℕ} → Bytes b b' phase (failed_in b) runs → (m : ℕ) (x : Slices) (tally was : Tally)
    → (let s = shown m (own b x) was in shown m (own b' x) tally ≡ with_saves s phase s.mark runs tally)
bytes_shown g m x tally was = same_state
    (λ i. record { nodes = g.nodes i; sheets = m; owner = owner_in m x.sets 8 })
    refl
    (λ i k. entries (g.order i) (place_in x.queues) (queued m x.queues k) (placed x.queues))
    g.phased refl refl refl g.marked g.counted
    (λ i. take (placed x.queues) (g.order i)) refl refl refl
