use Rattle.std.proofs.Common.{◌≡◌, ◌++◌}
use Rattle.sto_tree.specs.Repack.{packed_leaves}
use Rattle.sto_tree.proofs.repack.push_leaves.Given as goal

abbrev pub invariant-loop-leaf : goal.invariant-loop-leaf
invariant-loop-leaf l = l.updates.items ≡ l.fn.updates.items ++ packed_leaves l.rows.items 0 l.leaf
