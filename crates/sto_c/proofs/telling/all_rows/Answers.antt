-- Those of the next object are added.
use Rattle.sto_c.proofs.Copying.{rows_next}
use Rattle.sto_c.proofs.telling.all_rows.Goals as goal

pub loop-object-preserved : goal.loop-object-preserved
loop-object-preserved c =
    rows_next c.args.state.now.items _ c.loop-object.out.items _ c.get.result.now.items c.loop-object.object c.get.ensures.item c.loop-object.invariant c.in_ok-add_rows.ensures
