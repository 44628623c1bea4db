use Rattle.sto_run_feed.specs.Passes.{IsPass, known}
use Rattle.sto_run_feed.proofs.server.next_job.Given as goal

abbrev pub invariant-loop : goal.invariant-loop
invariant-loop g l = record { pass : IsPass l.queue l.worker (known l.fn.worker) }
