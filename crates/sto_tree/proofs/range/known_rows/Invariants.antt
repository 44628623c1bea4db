use Rattle.std.proofs.Common.{◌≡◌, ◌*◌}
use Rattle.sto_type.specs.Known.{known}
use Rattle.sto_tree.specs.Slots.{gathered}
use Rattle.sto_tree.specs.KnownRows.{known_slot}
use Rattle.sto_tree.proofs.range.known_rows.Given as goal

abbrev pub invariant-loop-leaf : goal.invariant-loop-leaf
invariant-loop-leaf l = l.rows.items ≡ gathered (known_slot (known l.cache) l.directory l.from l.to) (8 * l.leaf)
