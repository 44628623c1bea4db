use Rattle.std.proofs.Common.{length}
use Rattle.sto_run_feed.specs.QueuePasses.{AreAt}
use Rattle.sto_run_feed.proofs.Feeding.{runs_sent}
use Rattle.sto_run_feed.proofs.feeder.send_runs.Given as goal

abbrev pub invariant-loop-place : goal.invariant-loop-place
invariant-loop-place g l = record { at : AreAt l.queues l.feeders.items (runs_sent (length l.queues) l.order l.place-index) }
