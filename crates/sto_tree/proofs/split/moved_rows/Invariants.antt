use Rattle.std.proofs.Common.{◌≡◌}
use Rattle.sto_type.specs.Known.{known}
use Rattle.sto_tree.specs.Slots.{gathered}
use Rattle.sto_tree.specs.Layout.{place_slot}
use Rattle.sto_tree.specs.Walked.{moved_value}
use Rattle.sto_tree.proofs.split.moved_rows.Given as goal

abbrev pub invariant-loop-place : goal.invariant-loop-place
invariant-loop-place l = l.rows.items ≡ gathered (place_slot l.found.keys.now (moved_value (known l.cache) l.found.number l.found.keys.now)) l.place
