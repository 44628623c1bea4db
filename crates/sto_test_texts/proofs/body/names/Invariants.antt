use Rattle.std.proofs.Common.{◌≡◌, length}
use Rattle.sto_test_texts.proofs.body.names.Given as goal

abbrev pub invariant-loop : goal.invariant-loop
invariant-loop l = length l.names.items ≡ l.counter
