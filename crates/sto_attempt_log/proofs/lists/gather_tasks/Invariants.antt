use Rattle.std.proofs.Common.{◌≡◌, drop}
use Rattle.sto_core.specs.Allowed.{Rises}
use Rattle.sto_attempt_log.specs.Gathering.{gathered, adding_part}
use Rattle.sto_attempt_log.proofs.lists.gather_tasks.Given as goal

abbrev pub invariant-loop-update : goal.invariant-loop-update
invariant-loop-update l = (gathered adding_part l.made.items (drop l.update-index l.updates) ≡ gathered adding_part l.loaded.items l.updates) × Rises l.made.items
