use Rattle.std.proofs.Common.{ℕ, List, length}
use Rattle.sto_run_feed.specs.declared.job.Job.{Job}
use Rattle.sto_run_feed.specs.QueuePasses.{AreAt, all_sent, all_taken}
use Rattle.sto_run_feed.proofs.all.close_all.Given as goal

abbrev pub invariant-loop-queue : goal.invariant-loop-queue
invariant-loop-queue l = record {
  closes : (jobs : ℕ → List Job) × AreAt l.queues.items l.feeders.items (λ n. all_sent (jobs n)) × AreAt l.queues.items l.workers.items (λ n. all_taken (jobs n));
}

abbrev pub decreases-loop-queue : goal.decreases-loop-queue
decreases-loop-queue l = length l.queues.items
