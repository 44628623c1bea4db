use Rattle.std.specs.Int.{w64}
use Rattle.std.proofs.Common.{rules, ◌+◌, ℤ, slice_set, sym, subst}
use Rattle.std.proofs.lemmas.Int.{to_z-of_z}
use Rattle.sto_action.proofs.Snapshots.{IsSoFar, one_more}
use Rattle.sto_action.proofs.snapshot.counters_held.Goals as goal

pub loop-place-preserved : goal.loop-place-preserved
loop-place-preserved g c =
    let inv = c.loop-place.invariant in
    let x = c.in_ok-value.value in
    record {
      many = search rules;
      so = subst (λ (y : ℤ). IsSoFar (c.loop-place.place + 1) (slice_set c.loop-place.held c.loop-place.place y) c.args.tx.now c.get.new.tx) (sym (to_z-of_z w64 x (search rules)))
          (one_more g.row.E.Denot c.loop-place.place c.loop-place.held c.args.tx.now c.loop-place.tx c.get.new.tx 0 x (search rules) inv.so c.in_ok-value.ensures);
    }
