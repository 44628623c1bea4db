use Rattle.std.proofs.Common.{◌≡◌, map}
use Rattle.sto_report_spec.specs.Orders.{numbers_from}
use Rattle.sto_journal.specs.Journals.{places}
use Rattle.sto_orders.specs.Keys.{done_in}
use Rattle.sto_orders.proofs.key.all_done.Given as goal

abbrev pub invariant-loop-thread : goal.invariant-loop-thread
invariant-loop-thread l = l.done.items ≡ map (done_in (places l.lines)) (numbers_from 0 l.thread)
