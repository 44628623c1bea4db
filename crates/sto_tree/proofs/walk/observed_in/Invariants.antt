use Rattle.std.proofs.Common.{◌≡◌, None, [], drop}
use Rattle.sto_type.specs.Known.{known}
use Rattle.sto_type.specs.Reading.{need_of, items_of}
use Rattle.sto_tree.specs.Between.{between_each}
use Rattle.sto_tree.proofs.walk.observed_in.Given as goal

abbrev pub invariant-loop-leaf : goal.invariant-loop-leaf
invariant-loop-leaf l = record {
  need : need_of (between_each l.scans l.directory l.from l.to (drop l.leaf-index l.listed) l.items.items) (known l.cache) ≡ None;
  items : items_of (between_each l.scans l.directory l.from l.to l.listed []) (known l.cache) ≡ items_of (between_each l.scans l.directory l.from l.to (drop l.leaf-index l.listed) l.items.items) (known l.cache);
}
