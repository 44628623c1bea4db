use Rattle.sto_run_threads.specs.Orders.{count_in}
use Rattle.sto_run_feed.proofs.Orders.{HasCome}
use Rattle.sto_run_feed.proofs.order.add_round.Given as goal

abbrev pub invariant-loop-thread : goal.invariant-loop-thread
invariant-loop-thread g l = record { come : HasCome l.fn.order.items l.order.items l.position l.thread (count_in (g.W.Work.plan l.work).file.threads) }
