use Rattle.std.proofs.Common.{◌≡◌, take}
use Rattle.sto_item.specs.Pending.{with_updates, AreUpdates}
use Rattle.sto_item.specs.Agreement.{HasWidths}
use Rattle.sto_test_alone.proofs.applying.add_updates.Given as goal

abbrev pub invariant-loop-entry : goal.invariant-loop-entry
invariant-loop-entry l = record {
  ordered : AreUpdates l.pending.updates;
  widths : HasWidths l.pending.updates l.contents.items;
  same : l.pending.updates ≡ with_updates l.fn.pending.updates (take l.entry-index l.updates.items);
}
