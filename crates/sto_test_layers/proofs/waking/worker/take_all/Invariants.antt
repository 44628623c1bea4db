use Rattle.sto_run_feed.specs.Passes.{IsPass, known}
use Rattle.sto_run_feed.specs.Queues.{working}
use Rattle.sto_test_layers.proofs.waking.worker.take_all.Given as goal

abbrev pub invariant-loop : goal.invariant-loop
invariant-loop g l = record { pass : IsPass l.queue l.worker (working (known l.worker).jobs (known l.worker).taken) }
