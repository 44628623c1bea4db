-- The first rows were added.
use Rattle.std.proofs.Common.{◌≡◌, ◌++◌, map, take}
use Rattle.sto_c.specs.Crossing.{row_out}
use Rattle.sto_c.proofs.telling.add_rows.Given as goal

abbrev pub invariant-loop-place : goal.invariant-loop-place
invariant-loop-place l = l.out.items ≡ l.fn.out.items ++ map (row_out l.object) (take l.place l.rows.items)
