use Rattle.sto_tree.specs.Valid.{IsTree}
use Rattle.sto_test_layers.proofs.trees.walk.walk.Given as goal

abbrev pub invariant-loop : goal.invariant-loop
invariant-loop l = IsTree l.leaves l.contents.items
