use Rattle.std.proofs.Common.{◌≡◌, [], length, map, replicate}
use Rattle.sto_checker.proofs.window.Windows.new.Given as goal

abbrev pub invariant-loop : goal.invariant-loop
invariant-loop l = record {
  empty : map (λ m. m.items) l.made.items ≡ replicate l.counter [];
  count : length l.made.items ≡ l.counter;
}
