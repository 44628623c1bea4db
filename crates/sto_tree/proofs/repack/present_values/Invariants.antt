use Rattle.std.proofs.Common.{◌≡◌}
use Rattle.sto_type.specs.Known.{known}
use Rattle.sto_tree.specs.Repack.{present_values}
use Rattle.sto_tree.specs.Walked.{known_words}
use Rattle.sto_tree.proofs.repack.present_values.Given as goal

abbrev pub invariant-loop-leaf : goal.invariant-loop-leaf
invariant-loop-leaf l = l.parts.items ≡ present_values (known_words (known l.cache)) l.leaf
