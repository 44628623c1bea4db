use Rattle.std.proofs.Common.{◌<◌, length}
use Rattle.sto_orders.proofs.way.fewest_legs.Given as goal

abbrev pub invariant-loop-place : goal.invariant-loop-place
invariant-loop-place l = l.best < length l.ways
