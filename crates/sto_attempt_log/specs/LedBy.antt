-- What a commit is led by, as the lists are made of the items and updates of an attempt.
use Rattle.std.specs.Prelude.{◌≡◌, ◌≤◌, ◌<◌, ◌+◌, ◌^◌, [], length}
use Rattle.sto_item.specs.Recorded.{Recorded}
use Rattle.sto_attempt_log.specs.declared.lists.Lists.{Lists}
use Rattle.sto_attempt_log.specs.Gathering.{AreGathered}

-- the lists of a commit, with room for all that its locks and tests find
pub record AreListsOf (set : Recorded) (l : Lists) : Type 0 where
  pub updates : l.updates.items ≡ set.updates
  pub gathered : AreGathered set.items set.updates l.seen.items l.loaded.items l.tasks.items l.checks.items l.places.items
  pub checks : length l.checks.items < 2 ^ 32
  pub places : length l.places.items < 2 ^ 32
  pub few : length l.updates.items + length l.tasks.items < 2 ^ 32
  pub none : l.found_tickets.items ≡ []
  pub room : length l.updates.items + length l.tasks.items ≤ l.found_tickets.spare
