use Rattle.std.proofs.Common.{◌≡◌, length}
use Rattle.sto_test_types.proofs.alone.boxes.Given as goal

abbrev pub invariant-loop-value : goal.invariant-loop-value
invariant-loop-value l = length l.many ≡ l.value-index
