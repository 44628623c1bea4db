use Rattle.std.proofs.Common.{◌≡◌, ◌≤◌}
use Rattle.sto_tree.specs.KnownCount.{counted_keys}
use Rattle.sto_tree.proofs.count.count_keys.Given as goal

abbrev pub invariant-loop-place : goal.invariant-loop-place
invariant-loop-place l = (l.found ≡ counted_keys l.keys l.from l.to l.place) × (l.found ≤ l.place)
