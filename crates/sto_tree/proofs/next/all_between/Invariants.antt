use Rattle.std.proofs.Common.{◌≡◌, take}
use Rattle.std.specs.List.{flat_map}
use Rattle.sto_tree.specs.Next.{leaf_seen}
use Rattle.sto_tree.proofs.next.all_between.Given as goal

abbrev pub invariant-loop-leaf : goal.invariant-loop-leaf
invariant-loop-leaf l = l.items.items ≡ flat_map (leaf_seen l.directory l.from l.to) (take l.leaf-index l.leaf-items)
