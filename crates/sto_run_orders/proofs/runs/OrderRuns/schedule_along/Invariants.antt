use Rattle.sto_run_orders.specs.Ready.{AreTurns}
use Rattle.sto_run_orders.proofs.runs.OrderRuns.schedule_along.Given as goal

abbrev pub invariant-loop-place : goal.invariant-loop-place
invariant-loop-place l = AreTurns l.self l.entries.items
