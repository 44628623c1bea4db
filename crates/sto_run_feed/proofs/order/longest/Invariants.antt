use Rattle.std.proofs.Common.{ℕ, ◌<◌, ◌≤◌}
use Rattle.sto_run_threads.specs.Orders.{count_in}
use Rattle.sto_run_feed.proofs.order.longest.Given as goal

abbrev pub invariant-loop-thread : goal.invariant-loop-thread
invariant-loop-thread g l = record { each : (u : ℕ) → u < l.thread → count_in (g.W.Work.plan l.work).file.threads u ≤ l.longest }
