use Rattle.std.proofs.Common.{◌≡◌, length}
use Rattle.sto_test_parts.proofs.model.are_answered.Given as goal

abbrev pub invariant-loop-asked : goal.invariant-loop-asked
invariant-loop-asked l = length l.state.items ≡ length l.fn.state.items
