use Rattle.sto_run_feed.specs.Passes.{IsPass}
use Rattle.sto_run_feed.specs.Queues.{feeding}
use Rattle.sto_test_layers.proofs.waking.feeder.send_all.Given as goal

abbrev pub invariant-loop-number : goal.invariant-loop-number
invariant-loop-number g l = record { pass : IsPass l.queue l.feeder (feeding l.jobs l.number) }
