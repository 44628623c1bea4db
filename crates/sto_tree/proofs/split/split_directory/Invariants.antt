use Rattle.std.proofs.Common.{◌≡◌, ◌*◌, length}
use Rattle.sto_tree.specs.Split.{in_threes, split_ranges}
use Rattle.sto_tree.proofs.split.split_directory.Given as goal

abbrev pub invariant-loop-other : goal.invariant-loop-other
invariant-loop-other l = record {
  items : l.update.items ≡ in_threes (split_ranges l.leaves l.found.directory.now l.found.number l.found.keys.now l.free) 0 l.other;
  few : length l.update.items ≡ 3 * l.other;
}
