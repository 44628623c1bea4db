use Rattle.std.proofs.Common.{◌≡◌}
use Rattle.sto_type.specs.Known.{known}
use Rattle.sto_tree.specs.KnownRows.{known_values, with_places}
use Rattle.sto_tree.proofs.range.add_places.Given as goal

abbrev pub invariant-loop-place : goal.invariant-loop-place
invariant-loop-place l = l.rows.items ≡ with_places l.fn.rows.items l.keys (known_values (known l.cache) l.leaf) l.place
