-- The rows of the other objects are left.
use Rattle.std.proofs.Common.{◌≡◌, ◌++◌, drop}
use Rattle.sto_c.specs.Crossing.{rows_out}
use Rattle.sto_c.proofs.telling.all_rows.Given as goal

abbrev pub invariant-loop-object : goal.invariant-loop-object
invariant-loop-object l = l.out.items ++ rows_out l.object (drop l.object l.state.items) ≡ rows_out 0 l.state.items
