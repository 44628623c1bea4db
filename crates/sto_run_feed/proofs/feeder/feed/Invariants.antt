use Rattle.std.proofs.Common.{length}
use Rattle.sto_run_feed.specs.QueuePasses.{AreAt}
use Rattle.sto_run_feed.proofs.Feeding.{ends_sent}
use Rattle.sto_run_feed.proofs.feeder.feed.Given as goal

abbrev pub invariant-loop-number : goal.invariant-loop-number
invariant-loop-number g l = record { at : AreAt l.queues l.feeders.items (ends_sent (length l.queues) l.order l.number) }
