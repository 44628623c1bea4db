use Rattle.std.proofs.Common.{◌≡◌, ◌++◌, drop}
use Rattle.sto_attempt_log.specs.Gathering.{places_in}
use Rattle.sto_attempt_log.proofs.lists.gather_places.Given as goal

abbrev pub invariant-loop-update : goal.invariant-loop-update
invariant-loop-update l = l.made.items ++ places_in (drop l.update-index l.updates) ≡ places_in l.updates
