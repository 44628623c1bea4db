-- The next row is added behind them.
use Rattle.std.proofs.Common.{[], ◌∷◌, ◌++◌, ap, ◌∙◌}
use Rattle.sto_c.specs.Crossing.{row_out}
use Rattle.sto_c.proofs.Copying.{added_next}
use Rattle.sto_c.proofs.telling.add_rows.Goals as goal

pub loop-place-preserved : goal.loop-place-preserved
loop-place-preserved c =
    added_next (row_out c.args.object) c.args.rows.now.items c.args.out.now.items c.loop-place.out.items _ c.get.result.now c.loop-place.place c.get.ensures c.loop-place.invariant
    (c.in_ok-push.ensures.ok ∙ ap (λ x. c.loop-place.out.items ++ x ∷ []) c.of.ensures)
