use Rattle.std.proofs.Common.{◌≡◌, [], drop}
use Rattle.sto_core.specs.Allowed.{Rises}
use Rattle.sto_attempt_log.specs.Gathering.{gathered, seen_part}
use Rattle.sto_attempt_log.proofs.lists.gather_seen.Given as goal

abbrev pub invariant-loop-item : goal.invariant-loop-item
invariant-loop-item g l = (gathered seen_part l.made.items (drop l.item-index l.items) ≡ gathered seen_part [] l.items) × Rises l.made.items
