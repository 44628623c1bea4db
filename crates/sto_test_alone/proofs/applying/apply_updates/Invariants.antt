use Rattle.std.proofs.Common.{◌≡◌, take}
use Rattle.sto_item.specs.Pending.{applied_updates}
use Rattle.sto_test_alone.proofs.applying.apply_updates.Given as goal

abbrev pub invariant-loop-entry : goal.invariant-loop-entry
invariant-loop-entry g l = l.contents ≡ record l.fn.contents { items = applied_updates (take l.entry-index l.updates.items) l.fn.contents.items }
