-- The node count is stored, and each sheet joins its owner's set.
use mathlib.Core.Path.{◌≡◌, refl}
use native.Mathlib.Omega.{arith}
use lib.ListN.{length, length-set}
use Rattle.state.specs.Slices.{slices}
use Rattle.state.proofs.Fresh.{owned_none, owned_on, starts, owner_fits}
use Rattle.state.proofs.Session.fresh.Goals as goal

pub loop-k-init : goal.loop-k-init
loop-k-init c = owned_none (length c.args.owners.now) c.args.owners.now c.args.sets.now c.requires.0.sets0

pub overflow_add-owners : goal.overflow_add-owners
overflow_add-owners c = let small = c.requires.1 c.loop-k.k in record { fits = omega arith }

pub insert-requires : goal.insert-requires
insert-requires c = owner_fits c.args.owners.now c.loop-k.k c.requires.1 c.loop-k-test.true c.loop-k.invariant c.requires.0.sets

pub loop-k-preserved : goal.loop-k-preserved
loop-k-preserved c = let k = c.loop-k.k in
    owned_on (length c.args.owners.now) c.args.owners.now c.args.sets.now k refl (c.requires.1 k) c.loop-k.invariant c.insert.ensures

pub returns : goal.returns
returns c = record {
  same_references = record { bytes = refl; sets = refl; queues = refl; value = refl; seen = refl; sheets = refl };
  long = (rw length-set refl, c.loop-k.invariant.long);
  starts =
      let e : c.loop-k.k ≡ length c.args.owners.now = omega arith in
      let x = slices c.args.bytes.now c.args.sets.now c.args.queues.now c.args.value.now c.args.seen.now c.args.sheets.now in
      (refl, starts c.args.nodes c.args.owners.now x c.requires.0 c.requires.1 c.loop-k.sets (rw e at c.loop-k.invariant));
  untouched = (refl, refl, refl, refl);
}
