use Rattle.std.proofs.Common.{◌≡◌, ◌*◌, length}
use Rattle.sto_tree.specs.Split.{in_threes}
use Rattle.sto_tree.specs.Repack.{packed_ranges}
use Rattle.sto_tree.proofs.repack.packed_directory.Given as goal

abbrev pub invariant-loop-leaf : goal.invariant-loop-leaf
invariant-loop-leaf l = record {
  items : l.update.items ≡ in_threes (packed_ranges l.rows.items) 0 l.leaf;
  few : length l.update.items ≡ 3 * l.leaf;
}
