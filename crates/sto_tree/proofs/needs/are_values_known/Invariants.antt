use Rattle.sto_type.specs.Known.{known}
use Rattle.sto_tree.specs.Walked.{AreValuesKnown}
use Rattle.sto_tree.proofs.needs.are_values_known.Given as goal

abbrev pub invariant-loop-place : goal.invariant-loop-place
invariant-loop-place l = AreValuesKnown (known l.cache) l.leaf l.keys l.place
