use Rattle.std.proofs.Common.{◌≡◌, ◌++◌}
use Rattle.sto_tree.specs.Repack.{present_values_in}
use Rattle.sto_tree.proofs.repack.add_present.Given as goal

abbrev pub invariant-loop-place : goal.invariant-loop-place
invariant-loop-place l = l.parts.items ≡ l.fn.parts.items ++ present_values_in l.leaf l.keys l.place
