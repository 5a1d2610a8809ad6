-- A refusal for each test, the first run, a wide one, the commit.
use mathlib.Core.Path.{sym, ◌∙◌}
use native.Mathlib.Omega.{arith}
use Rattle.state.specs.View.{tables}
use Rattle.submits.proofs.Submitting.{out, first_fits, first_joins, left_fits, wide_joins, commits, commits_keeps}
use Rattle.std.proofs.Common.{rules}
use Rattle.submits.proofs.submit.Goals as goal

pub join-requires : goal.join-requires
join-requires c = first_fits c.requires c.in_ok-i.ensures c.if-p-eq-FIRST_RUN.true

pub returns-then-p-eq-FIRST_RUN : goal.returns-then-p-eq-FIRST_RUN
returns-then-p-eq-FIRST_RUN c =
    let x = tables c.args.x.now in
    let all = first_joins c.requires c.in_ok-i.ensures c.if-p-eq-FIRST_RUN.true c.join.ensures in record {
      moves = all.0 x;
      kept = all.1 x;
      only = search rules;
      alone = record { moves = all.0; kept = all.1 };
    }

pub returns-then-p-ne-SECOND_RUN : goal.returns-then-p-ne-SECOND_RUN
returns-then-p-ne-SECOND_RUN c =
    let refuses = out c.requires c.in_ok-i.ensures c.out_of_phase.ensures c.if-p-eq-FIRST_RUN.false c.if-p-ne-SECOND_RUN.true in record {
      moves = refuses (tables c.args.x.now);
      kept = λ f. f;
      only = search rules;
      alone = record { moves = refuses; kept = λ y f. f };
    }

pub is_wide-requires : goal.is_wide-requires
is_wide-requires c = let k = c.requires.kept in let row = c.in_ok-i.ensures in rw row.0 (k.sized.sets, c.requires.known.sheets16, row.1, k.sets)

pub leave-requires : goal.leave-requires
leave-requires c = let z = c.requires.kept in let row = c.in_ok-i.ensures in
    rw row.0 (z.sized.sets, z.sized.queues, c.requires.known.sheets16, row.1, omega (arith, row.1), z.sets.ends)

pub join-requires-then-is_wide : goal.join-requires-then-is_wide
join-requires-then-is_wide c = left_fits c.requires c.in_ok-i.ensures c.if-p-ne-SECOND_RUN.false c.leave.ensures c.give_place.ensures

pub returns-then-is_wide : goal.returns-then-is_wide
returns-then-is_wide c =
    let x = tables c.args.x.now in
    let wide = sym c.if-is_wide.true ∙ c.is_wide.ensures in
    let all = wide_joins c.requires c.in_ok-i.ensures c.if-p-ne-SECOND_RUN.false c.leave.ensures c.give_place.ensures c.join-then-is_wide.ensures wide in record {
      moves = all.0 x;
      kept = all.1 x;
      only = search rules;
      alone = record { moves = all.0; kept = all.1 };
    }

pub returns : goal.returns
returns c =
    let x = tables c.args.x.now in
    let ends = commits c.requires c.in_ok-i.ensures c.if-p-ne-SECOND_RUN.false (sym c.if-is_wide.false ∙ c.is_wide.ensures) in
    let fits = commits_keeps c.requires c.in_ok-i.ensures in record {
      moves = ends x;
      kept = fits x;
      only = search rules;
      alone = record { moves = ends; kept = fits };
    }
