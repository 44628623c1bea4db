use Rattle.std.proofs.Common.{◌≡◌, ◌++◌, take}
use Rattle.sto_tree.specs.Repack.{row_values, rows_of_leaf}
use Rattle.sto_tree.proofs.changes.push_values.Given as goal

abbrev pub invariant-loop-place : goal.invariant-loop-place
invariant-loop-place l = l.updates.items ≡ l.fn.updates.items ++ row_values l.leaf 0 (take l.place (rows_of_leaf l.rows.items l.chunk))
