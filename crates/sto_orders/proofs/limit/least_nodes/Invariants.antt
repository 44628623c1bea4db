use Rattle.std.proofs.Common.{◌≡◌, take}
use Rattle.sto_lang.specs.Views.{threads_of}
use Rattle.sto_orders.specs.Causes.{least_told}
use Rattle.sto_orders.proofs.limit.least_nodes.Given as goal

abbrev pub invariant-loop-thread : goal.invariant-loop-thread
invariant-loop-thread l = l.least ≡ least_told (threads_of (take l.thread-index l.threads))
