use Rattle.std.proofs.Common.{◌≡◌, [], drop}
use Rattle.sto_core.specs.Allowed.{Rises}
use Rattle.sto_attempt_log.specs.Gathering.{gathered, other_part}
use Rattle.sto_attempt_log.proofs.lists.gather_loaded.Given as goal

abbrev pub invariant-loop-item : goal.invariant-loop-item
invariant-loop-item g l = (gathered (other_part l.seen) l.made.items (drop l.item-index l.items) ≡ gathered (other_part l.seen) [] l.items) × Rises l.made.items
