use Rattle.std.proofs.Common.{◌≡◌, drop}
use Rattle.sto_core.specs.Allowed.{Rises}
use Rattle.sto_attempt_log.specs.Gathering.{gathered, unwritten_part}
use Rattle.sto_attempt_log.proofs.lists.gather_checks.Given as goal

abbrev pub invariant-loop-part : goal.invariant-loop-part
invariant-loop-part l = (gathered (unwritten_part l.updates) l.made.items (drop l.part-index l.loaded) ≡ gathered (unwritten_part l.updates) l.seen.items l.loaded) × Rises l.made.items
