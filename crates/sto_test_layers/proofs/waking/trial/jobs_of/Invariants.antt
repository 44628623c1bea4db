use Rattle.std.specs.List.{All}
use Rattle.sto_run_feed.specs.Queues.{IsRun}
use Rattle.sto_test_layers.proofs.waking.trial.jobs_of.Given as goal

abbrev pub invariant-loop-position : goal.invariant-loop-position
invariant-loop-position l = record { runs : All IsRun l.jobs.items }
