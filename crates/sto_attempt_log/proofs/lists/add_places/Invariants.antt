use Rattle.std.proofs.Common.{◌≡◌, ◌++◌, drop}
use Rattle.sto_attempt_log.specs.Gathering.{places_at}
use Rattle.sto_attempt_log.proofs.lists.add_places.Given as goal

abbrev pub invariant-loop-word : goal.invariant-loop-word
invariant-loop-word l = l.made.items ++ places_at l.part l.word (drop l.word l.update.items) ≡ l.fn.made.items ++ places_at l.part 0 l.update.items
