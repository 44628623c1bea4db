use Rattle.std.proofs.Common.{◌≡◌, ◌*◌, length}
use Rattle.sto_tree.specs.Said.{in_pairs}
use Rattle.sto_tree.specs.Repack.{filled, rows_of_leaf}
use Rattle.sto_tree.proofs.changes.filled_changes.Given as goal

abbrev pub invariant-loop-place : goal.invariant-loop-place
invariant-loop-place l = record {
  items : l.update.items ≡ in_pairs (filled (rows_of_leaf l.rows.items l.leaf)) 0 l.place;
  few : length l.update.items ≡ 2 * l.place;
}
