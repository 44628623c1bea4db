use Rattle.std.proofs.Common.{◌≡◌, length, take, sum_by}
use Rattle.sto_lang.specs.Views.{threads_of}
use Rattle.sto_orders.proofs.explored.transaction_count.Given as goal

abbrev pub invariant-loop-thread : goal.invariant-loop-thread
invariant-loop-thread l = l.count ≡ sum_by (λ thread. length thread.scripts.items) (take l.thread-index l.thread-items)
