use Rattle.std.proofs.Common.{◌≡◌, map, take}
use Rattle.sto_orders.proofs.key.rows_of.Given as goal

abbrev pub invariant-loop-object : goal.invariant-loop-object
invariant-loop-object l = map (λ rows. rows.items) l.all.items ≡ take l.object l.state.items
