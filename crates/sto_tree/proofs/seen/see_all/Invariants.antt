use Rattle.std.proofs.Common.{◌≡◌, ◌++◌, take}
use Rattle.sto_tree.specs.Between.{all_seen}
use Rattle.sto_tree.proofs.seen.see_all.Given as goal

abbrev pub invariant-loop-part : goal.invariant-loop-part
invariant-loop-part l = l.items.items ≡ l.fn.items.items ++ all_seen (take l.part-index l.parts)
