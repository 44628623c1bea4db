use Rattle.std.proofs.Common.{take}
use Rattle.sto_item.specs.Recorded.{AddsItems}
use Rattle.sto_item.specs.Rebase.{rebased}
use Rattle.sto_attempt_log.proofs.recall.add_items.Given as goal

abbrev pub invariant-loop-place : goal.invariant-loop-place
invariant-loop-place l = AddsItems l.fn.set (rebased l.fn.set.updates (take l.place l.items.items)) l.set
