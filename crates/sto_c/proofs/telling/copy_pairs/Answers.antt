-- The next pair is written behind them.
use Rattle.std.proofs.Common.{slice_set, ap}
use Rattle.sto_c.specs.Crossing.{pair_out}
use Rattle.sto_c.proofs.Copying.{copied_next}
use Rattle.sto_c.proofs.telling.copy_pairs.Goals as goal

pub loop-place-preserved : goal.loop-place-preserved
loop-place-preserved c =
    copied_next pair_out c.args.pairs.now.items c.args.out.now c.loop-place.out _ c.get.result.now c.loop-place.place c.get.ensures c.requires c.loop-place.invariant
    (ap (λ x. slice_set c.loop-place.out c.loop-place.place x) c.of.ensures)
