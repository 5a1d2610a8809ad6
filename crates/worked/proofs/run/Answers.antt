-- The session shows the rules' state after the commands so far.
use Prim.Native.Nat.{◌*◌, ◌<◌}
use mathlib.Core.Path.{refl, sym, subst}
use native.Mathlib.Omega.{arith}
use Rattle.rules.specs.State.{State, fresh}
use Rattle.rules.specs.Sizes.{max_sheets}
use Rattle.wire.specs.Meaning.{command_of}
use Rattle.state.specs.View.{tables, shown_by}
use Rattle.state.specs.Fit.{Known}
use Rattle.state.proofs.Fresh.{blank_zeros}
use Rattle.state.proofs.Known.{ready, rising}
use Rattle.state.proofs.Lending.{same_first}
use Rattle.worked.specs.Worked.{state_after}
use Rattle.worked.proofs.Certain.{owner_small, known_after, rises_after, onward}
use borrow.Author.Rules.{rules}
use Rattle.worked.proofs.run.Goals as goal

pub fresh-x-requires : goal.fresh-x-requires
fresh-x-requires g c = (blank_zeros 2 2849 168 202 (32 * max_sheets) (32 * max_sheets) (2 * max_sheets) (omega arith) (omega arith) (omega arith) (omega arith) (omega arith) (omega arith), owner_small)

pub loop-i-init : goal.loop-i-init
unfolding state_after fresh
loop-i-init g c =
    let s = c.fresh-x.ensures.starts in
    (same_first c.fresh-x.result, rw s.0 s.1.fit, rw s.0 s.1.shows)

pub step-requires : goal.step-requires
step-requires g c =
    let l = c.loop-i in
    let h = c.loop-i-test.true in
    let t = (state_after l.i).tally in
    let k = subst Known (sym l.invariant.2) (known_after l.i h) in
    (ready l.x.m (tables l.x) t k l.invariant.1, rising l.x.m (tables l.x) t (λ k _. subst (λ (s : State). (s.sheet k).wct < 65535) (sym l.invariant.2) (rises_after l.i h k)), l.invariant.1)

pub loop-i-preserved : goal.loop-i-preserved
loop-i-preserved g c =
    let l = c.loop-i in
    (search rules, c.step.ensures.kept l.invariant.1, onward (shown_by l.x) (shown_by c.step.new.x) c.step.result l.i (command_of c.command.result) (λ tally. refl) l.invariant.2 c.command.ensures c.step.ensures.moves)
