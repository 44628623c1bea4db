use Rattle.std.proofs.Common.{◌≡◌, ◌++◌, take, drop}
use Rattle.sto_type.specs.Known.{known}
use Rattle.sto_tree.specs.Between.{all_seen}
use Rattle.sto_tree.specs.Walked.{first_unknown}
use Rattle.sto_tree.proofs.seen.see_parts.Given as goal

abbrev pub invariant-loop-part : goal.invariant-loop-part
invariant-loop-part l = record {
  need : first_unknown (known l.cache) l.parts ≡ first_unknown (known l.cache) (drop l.part-index l.parts);
  items : l.items.items ≡ l.fn.items.items ++ all_seen (take l.part-index l.parts);
}
