use mathlib.Core.Path.{refl, ◌∙◌}
use native.Mathlib.Omega.{arith}
use Rattle.state.proofs.Lending.{same_first, same_on}
use Rattle.state.proofs.Rows.{in_blocks}
use Rattle.entering.proofs.Rowing.{row_first, row_words, row_queues, row_inside, row_on, row_skip, row_end}
use Rattle.entering.proofs.enter.Goals as goal
use Rattle.entering.proofs.enter.Goals.{then-ours-ne0, else-ours-ne0}

pub loop-j-init : goal.loop-j-init
loop-j-init c = let x = c.args.x.now in record {
  rowing = row_first x.m c.args.n c.args.t x.seen.now x.sheets.now x.sets.now x.queues.now;
  only = record {
    same = same_first c.args.x.now;
    bytes = refl;
    sets = refl;
    queues = refl;
    value = refl;
    seen = refl;
    sheets = refl;
  };
}

pub enter_block-fails-requires : goal.enter_block-fails-requires
enter_block-fails-requires c =
    let g = c.loop-j.invariant.rowing in let o = c.loop-j.invariant.only in let r = c.requires in
    let jb = in_blocks c.args.x.now.m c.blocks-j-end.ensures c.loop-j-test.true in
    rw (o.same.0, o.seen, o.sheets) (rw c.hold.ensures.long (row_words g jb r.6 r.5 r.0), row_queues g jb r.6 r.5 r.1, r.2, r.3, r.4, r.6, row_inside g jb r.6 r.5 c.ours_in-ours.result c.ours_in-ours.ensures r.7)

pub loop-j-preserved : goal.loop-j-preserved
loop-j-preserved c =
    let g = c.loop-j.invariant.rowing in let o = c.loop-j.invariant.only in let r = c.requires in
    let jb = in_blocks c.args.x.now.m c.blocks-j-end.ensures c.loop-j-test.true in
    elim c.if-ours-ne0.branch [
      | then-ours-ne0 w ↦ let e = w.enter_block-fails.ensures.only in rw (w.x-is, w.first-is) (record {
        rowing = rw e.sets (row_on g jb r.6 r.5 c.ours_in-ours.result c.ours_in-ours.ensures r.7 w.hold.ensures (rw o.same.0 at w.enter_block-fails.ensures.entered)
            (omega (arith, w.enter_block-fails.type_inv)) (rw (o.same.0, o.seen, o.sheets) at w.enter_block-fails.ensures.late) (w.or-first.ensures ∙ rw w.first_in.ensures));
        only = record { same = same_on c.args.x.now c.loop-j.x w.enter_block-fails.new.x o.same (let s = e.same in (s.0, s.1, s.2, s.3, s.4, s.5, s.6, s.7, s.8 ∙ w.hold.ensures.long, s.9, s.10, s.11, s.12)); bytes = e.bytes ∙ o.bytes; sets = refl; queues = refl; value = e.value ∙ o.value; seen = e.seen ∙ o.seen; sheets = e.sheets ∙ o.sheets };
      })
      | else-ours-ne0 w ↦ rw (w.x-is, w.first-is) (record {
        rowing = row_skip g jb r.6 r.5 c.ours_in-ours.result c.ours_in-ours.ensures r.7 w.if-ours-ne0.false;
        only = o;
      })
    ]

pub returns : goal.returns
returns c = record {
  rowing = row_end c.loop-j.invariant.rowing c.blocks-j-end.ensures c.loop-j.auto.j-end c.loop-j-test.false;
  only = c.loop-j.invariant.only;
}
