use Rattle.std.proofs.Common.{◌≡◌, map, take}
use Rattle.sto_tree.specs.Between.{value_part_of}
use Rattle.sto_tree.proofs.walk.value_parts.Given as goal

abbrev pub invariant-loop-place : goal.invariant-loop-place
invariant-loop-place l = l.parts.items ≡ map (λ r. value_part_of l.leaf l.keys r.0) (take l.place l.pairs.items)
