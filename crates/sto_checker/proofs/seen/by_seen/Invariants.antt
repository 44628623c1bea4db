use Rattle.std.proofs.Common.{◌≡◌, [], length, map, replicate}
use Rattle.sto_checker.specs.Seen.{AreBySeen}
use Rattle.sto_checker.proofs.seen.by_seen.Given as goal

abbrev pub invariant-loop : goal.invariant-loop
invariant-loop l = record {
  empty : map (λ m. m.items) l.made.items ≡ replicate l.counter [];
  count : length l.made.items ≡ l.counter;
}

abbrev pub invariant-loop-place : goal.invariant-loop-place
invariant-loop-place l = AreBySeen l.aborts l.place l.writers (map (λ m. m.items) l.made.items)
