use Rattle.std.proofs.Common.{◌≤◌, length}
use Rattle.sto_test_parts.proofs.item.set_of.Given as goal

abbrev pub invariant-loop-item : goal.invariant-loop-item
invariant-loop-item l = length l.set.items ≤ l.item-index
