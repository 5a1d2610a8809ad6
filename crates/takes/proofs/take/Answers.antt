use mathlib.Core.Path.{refl}
use native.Mathlib.Omega.{arith}
use Rattle.state.specs.View.{tables}
use Rattle.std.proofs.Common.{rules}
use Rattle.takes.proofs.Nexts.{keeps, node8, out_node, out_places, save32, kept_former, moves_former, last_before, moves_last, kept_last}
use Rattle.takes.proofs.take.Goals as goal

pub returns-then-x-n-clause-alone : goal.returns-then-x-n-clause-alone
returns-then-x-n-clause-alone c = let x = c.args.x.now in
    record { moves = out_node c.requires.0 x.seen.now x.sheets.now c.args.n c.if-x-n.true; kept = λ y f. f }

pub returns-then-x-p : goal.returns-then-x-p
returns-then-x-p c =
    let x = c.args.x.now in
    let out = out_places c.requires.0 x.seen.now x.sheets.now c.args.n c.if-x-n.false c.if-x-p.true in record {
      moves = out (tables x);
      kept = λ f. f;
      only = search rules;
      alone = record { moves = out; kept = λ y f. f };
    }

pub bounds-x-i : goal.bounds-x-i
bounds-x-i c =
    let x = c.args.x.now in let r = c.requires.0 in
    let z = r.kept.sized.queues in
    let t32 = save32 r x.seen.now x.sheets.now c.args.n c.if-x-n.false refl c.if-x-p.false refl in
    omega arith

pub returns-then-last-p : goal.returns-then-last-p
returns-then-last-p c =
    let x = c.args.x.now in
    let counts = moves_former c.requires.0 x.seen.now x.sheets.now c.args.n c.if-x-n.false refl c.if-x-p.false refl c.if-last-p.true in
    let kept = kept_former c.requires.0 x.seen.now x.sheets.now c.args.n c.if-x-n.false refl c.if-x-p.false refl in record {
      moves = counts (tables x);
      kept = keeps kept (tables x);
      only = search rules;
      alone = record { moves = counts; kept = keeps kept };
    }

pub take_last-requires : goal.take_last-requires
take_last-requires c =
    let x = c.args.x.now in let r = c.requires.0 in let n = c.args.n in let nn = c.if-x-n.false in let nx = c.if-x-p.false in
    let seen = x.seen.now in let w = x.sheets.now in
    (kept_former r seen w n nn refl nx refl, last_before r seen w n nn refl nx refl c.if-last-p.false, c.requires.1, c.requires.2, r.known.sheets16, node8 r seen w n nn, save32 r seen w n nn refl nx refl)

pub returns : goal.returns
returns c =
    let x = c.args.x.now in let o = c.take_last.ensures.only in
    let takes = moves_last c.requires.0 x.seen.now x.sheets.now c.args.n c.if-x-n.false refl c.if-x-p.false refl c.if-last-p.false c.take_last.ensures.taken in
    let kept = kept_last c.requires.0 x.seen.now x.sheets.now c.args.n c.if-x-n.false refl c.if-x-p.false refl c.if-last-p.false c.take_last.ensures.taken in record {
      moves = rw (o.same.0, o.value, o.seen, o.sheets) (takes (tables x));
      kept = rw (o.same.0, o.value, o.seen, o.sheets) (keeps kept (tables x));
      only = search rules;
      alone = record { moves = takes; kept = keeps kept };
    }
