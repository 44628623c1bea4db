use Rattle.std.proofs.Common.{◌≡◌, ◌≤◌, ◌*◌}
use Rattle.sto_type.specs.Known.{known}
use Rattle.sto_tree.specs.KnownCount.{known_count}
use Rattle.sto_tree.proofs.count.known_count.Given as goal

abbrev pub invariant-loop-leaf : goal.invariant-loop-leaf
invariant-loop-leaf l = (l.found ≡ known_count l.leaf (known l.cache) l.directory l.from l.to) × (l.found ≤ 8 * l.leaf)
