use Rattle.std.proofs.Common.{◌≡◌, ◌≤◌, length}
use Rattle.sto_tree.specs.Split.{moved_values}
use Rattle.sto_tree.proofs.split.moved_parts.Given as goal

abbrev pub invariant-loop-place : goal.invariant-loop-place
invariant-loop-place l = record {
  items : l.parts.items ≡ moved_values l.leaf l.keys l.place;
  few : length l.parts.items ≤ l.place;
}
