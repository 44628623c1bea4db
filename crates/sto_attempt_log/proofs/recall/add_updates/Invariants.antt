use Rattle.std.proofs.Common.{◌≡◌, take}
use Rattle.sto_item.specs.Pending.{with_updates, AreUpdates}
use Rattle.sto_item.specs.Agreement.{HasWidths}
use Rattle.std.proofs.Common.{List, ℤ}
use Rattle.sto_attempt_log.proofs.recall.add_updates.Given as goal

abbrev pub invariant-loop-entry : goal.invariant-loop-entry
invariant-loop-entry l = record {
  ordered : AreUpdates l.set.updates;
  widths : (d : List (List ℤ)) → HasWidths l.fn.set.updates d → HasWidths l.updates.items d → HasWidths l.set.updates d;
  same : l.set ≡ record l.fn.set { updates = with_updates l.fn.set.updates (take l.entry-index l.updates.items) };
}
