use Rattle.std.proofs.Common.{◌≡◌, None}
use Rattle.sto_tree.specs.Search.{first_below}
use Rattle.sto_tree.specs.Split.{moves}
use Rattle.sto_tree.proofs.split.first_moved.Given as goal

abbrev pub invariant-loop-place : goal.invariant-loop-place
invariant-loop-place l = first_below (moves l.keys) l.place ≡ None
