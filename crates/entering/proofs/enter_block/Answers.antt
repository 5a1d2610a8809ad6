use native.Mathlib.Omega.{arith}
use mathlib.Core.Path.{refl, ◌∙◌}
use Rattle.state.proofs.Lending.{same_first}
use Rattle.sets.proofs.Loops.{at_digit}
use Rattle.entering.proofs.Entering.{going_first, going_step, going_end, at_sheet}
use Rattle.entering.proofs.enter_block.Goals as goal

pub loop-left-init : goal.loop-left-init
loop-left-init c = record {
  going = going_first c.args.x.now.queues.now c.ranges.ours.fits;
  only = record {
    same = same_first c.args.x.now;
    bytes = refl;
    sets = refl;
    queues = refl;
    value = refl;
    seen = refl;
    sheets = refl;
  };
}

pub enter_sheet-held-requires : goal.enter_sheet-held-requires
enter_sheet-held-requires c = let a = at_digit c.loop-left.invariant.going.over c.loop-left-test.true c.args.j c.requires.6 c.lowest-i.ensures in
    (at_sheet c.loop-left.invariant.going c.loop-left-test.true c.requires.6 c.lowest-i.ensures c.requires.1, omega (arith, a.1, c.requires.4), c.requires.5)

pub behind-late-requires : goal.behind-late-requires
behind-late-requires c = let o = c.loop-left.invariant.only in
    rw (o.same.0, o.seen, o.sheets) (c.requires.2, c.requires.3, c.requires.4, c.requires.5, (at_digit c.loop-left.invariant.going.over c.loop-left-test.true c.args.j c.requires.6 c.lowest-i.ensures).1)

pub loop-left-preserved : goal.loop-left-preserved
loop-left-preserved c = let l = c.loop-left.invariant in let o = l.only in record {
  going = going_step l.going c.loop-left-test.true c.requires.6 c.lowest-i.ensures c.rest-left.ensures c.has-in-loop-left.ensures
      (c.behind-late.ensures ∙ rw (o.same.0, o.seen, o.sheets)) c.has.ensures (c.enter_sheet-held.ensures.entered c.args.x.now.m) c.enter_sheet-held.ensures.held c.with_if-fails.ensures;
  only = record { same = let s = o.same in (s.0, s.1, s.2, s.3, s.4, s.5, s.6, s.7, s.8, c.enter_sheet-held.auto.q ∙ s.9, s.10, s.11, s.12); bytes = o.bytes; sets = o.sets; queues = refl; value = o.value; seen = o.seen; sheets = o.sheets };
}

pub returns : goal.returns
returns c = let l = c.loop-left.invariant in
    let all = going_end l.going c.loop-left-test.false c.word-xs.ensures c.word-copied.ensures in record {
      entered = all.0;
      late = all.1;
      only = l.only;
    }
