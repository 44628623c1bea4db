-- The first pairs stand at the front.
use Rattle.std.proofs.Common.{◌≡◌, ◌++◌, map, take, drop}
use Rattle.sto_c.specs.Crossing.{pair_out}
use Rattle.sto_c.proofs.telling.copy_pairs.Given as goal

abbrev pub invariant-loop-place : goal.invariant-loop-place
invariant-loop-place l = l.out ≡ map pair_out (take l.place l.pairs.items) ++ drop l.place l.fn.out
