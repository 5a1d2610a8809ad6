-- The worked session's states: what a step may rely on holds of each, as of every state that commands lead to, and a step leads from one to the next.
use Prim.Native.Nat.{ℕ, zero, suc, ◌+◌, ◌≤◌, ◌<◌}
use mathlib.Core.Path.{◌≡◌, refl, sym, ap, subst, ◌∙◌}
use mathlib.Core.List.{[], ◌∷◌}
use native.Mathlib.Numerals.{add-one}
use native.Mathlib.Omega.{arith}
use lib.ListN.{get_or}
use lib.Dec.{leb}
use borrow.Author.Tests.{leb-true}
use Rattle.rules.specs.Table.{upd, upd2, row, all, any}
use Rattle.rules.specs.Sizes.{max_commands}
use Rattle.rules.specs.Bytes.{Command}
use Rattle.rules.specs.State.{Tally, State, fresh, wide_by}
use Rattle.rules.specs.Steps.{x_on, Checked, pass, refuse, check, step_by, step}
use Rattle.rules.proofs.Table.{all_at}
use Rattle.rules.proofs.Accepted.{same_header}
use Rattle.rules.proofs.Reached.{Reached, reached_fresh, reached_step}
use Rattle.std.specs.Prelude.{Result}
use Rattle.refusals.specs.declared.Refusal.{Refusal}
use Rattle.state.specs.declared.Answer.{Answer}
use Rattle.state.specs.View.{advanced_in}
use Rattle.state.specs.Lent.{Steps}
use Rattle.state.specs.Fit.{Known}
use Rattle.state.proofs.Reaching as reaching
use Rattle.state.proofs.Steps.{state_stepped}
use Rattle.worked.specs.Worked.{header, command_at, state_after}

reached_after : (n : ℕ) → Reached (state_after n)
unfolding state_after
reached_after zero = reached_fresh header
reached_after (suc n) = reached_step (state_after n) (command_at n) (reached_after n)

-- the header stands
header_on : (s : State) (c : Command) (x : Checked) → (step_by x s c).state.header ≡ s.header
header_on s c pass = same_header s c
header_on s c (refuse n) = refl

header_after : (n : ℕ) → (state_after n).header ≡ header
unfolding state_after fresh
header_after zero = refl
header_after (suc n) = header_on (state_after n) (command_at n) (check (state_after n) (command_at n)) ∙ header_after n

pub owner_small : (k : ℕ) → get_or (0 ∷ 1 ∷ []) k 0 < 8
owner_small zero = omega arith
owner_small (suc zero) = omega arith
owner_small (suc (suc k)) = omega arith

-- antt computes how many commands were accepted
accepted_few : (n : ℕ) → n < 17 → (state_after n).tally.accepted ≤ max_commands
unfolding all any upd upd2 row wide_by x_on fresh state_after
accepted_few n h = leb-true (state_after n).tally.accepted max_commands (all_at 17 (λ n. leb (state_after n).tally.accepted max_commands) refl n h)

module _ (n : ℕ) (h : n < 17) where
  pub known_after : Known (state_after n)
  known_after = reaching.known (state_after n) (reached_after n) (rw (header_after n) (omega arith)) (rw (header_after n) (omega arith)) (λ k. rw (header_after n) (owner_small k)) (accepted_few n h)

  pub rises_after : (k : ℕ) → ((state_after n).sheet k).wct < 65535
  rises_after = reaching.rises (state_after n) (reached_after n) (rw (header_after n) (omega arith)) (rw (header_after n) (omega arith)) (λ k. rw (header_after n) (owner_small k)) (accepted_few n h)

-- one step on
pub onward : (before after : Tally → State) (a : Result Answer Refusal) (n : ℕ) (c : Command) → ((tally : Tally) → (after tally).tally ≡ tally)
    → before (state_after n).tally ≡ state_after n → c ≡ command_at n → Steps before c after a → after (state_after (n + 1)).tally ≡ state_after (n + 1)
unfolding state_after
onward before after a n c own e f s =
    let t = (state_after n).tally in
    let q : after (advanced_in t a) ≡ (step (state_after n) (command_at n)).state = state_stepped s e ∙ rw f in
    let z : advanced_in t a ≡ (step (state_after n) (command_at n)).state.tally = sym (own (advanced_in t a)) ∙ ap (λ r. r.tally) q in
    rw add-one (subst (λ x. after x ≡ (step (state_after n) (command_at n)).state) z q)
