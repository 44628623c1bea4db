use Rattle.std.proofs.Common.{◌≡◌, List, [], drop}
use Rattle.sto_item.specs.declared.item.Item.{Item}
use Rattle.sto_type.specs.Known.{known}
use Rattle.sto_type.specs.Reading.{need_of}
use Rattle.sto_tree.specs.Between.{between_each}
use Rattle.sto_tree.proofs.needs.first_needed.Given as goal

abbrev pub invariant-loop-leaf : goal.invariant-loop-leaf
invariant-loop-leaf l =
    (is : List Item) × (need_of (between_each l.scans l.directory l.from l.to l.listed []) (known l.cache)
    ≡ need_of (between_each l.scans l.directory l.from l.to (drop l.leaf-index l.listed) is) (known l.cache))
