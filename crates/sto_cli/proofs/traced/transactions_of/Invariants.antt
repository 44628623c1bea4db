use Rattle.std.proofs.Common.{◌≡◌, take, sum_by}
use Rattle.sto_cli.proofs.Counted.{scripts_of}
use Rattle.sto_cli.proofs.traced.transactions_of.Given as goal

abbrev pub invariant-loop-thread : goal.invariant-loop-thread
invariant-loop-thread l = l.count ≡ sum_by scripts_of (take l.thread-index l.thread-items)
