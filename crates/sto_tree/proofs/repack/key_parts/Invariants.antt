use Rattle.std.proofs.Common.{◌≡◌}
use Rattle.sto_tree.specs.Layout.{listed, key_part}
use Rattle.sto_tree.proofs.repack.key_parts.Given as goal

abbrev pub invariant-loop-leaf : goal.invariant-loop-leaf
invariant-loop-leaf l = l.parts.items ≡ listed key_part 0 l.leaf
