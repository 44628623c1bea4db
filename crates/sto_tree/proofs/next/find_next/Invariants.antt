use Rattle.std.proofs.Common.{◌≡◌, drop}
use Rattle.sto_type.specs.Known.{known}
use Rattle.sto_tree.specs.Walked.{next_need, next_found}
use Rattle.sto_tree.proofs.next.find_next.Given as goal

abbrev pub invariant-loop-leaf : goal.invariant-loop-leaf
invariant-loop-leaf l = record {
  need : next_need (known l.cache) l.key l.listed ≡ next_need (known l.cache) l.key (drop l.leaf-index l.listed);
  found : next_found (known l.cache) l.key l.listed ≡ next_found (known l.cache) l.key (drop l.leaf-index l.listed);
}
