use Rattle.std.proofs.Common.{◌≡◌, ◌++◌, ◌&&◌, drop, not, nat_eq}
use Rattle.std.specs.List.{filter}
use Rattle.sto_explore.specs.Exploring.{ended, order_after}
use Rattle.sto_explore.proofs.branch.order_of.Given as goal

-- the threads so far and those that are left are all
abbrev pub invariant-loop-thread : goal.invariant-loop-thread
invariant-loop-thread l = l.order.items ++ filter (λ t. not (nat_eq t l.next) && not (ended l.decided t)) (drop l.thread-index l.threads) ≡ order_after l.threads l.decided l.next
