use Rattle.std.proofs.Common.{◌≡◌, ◌++◌, map, drop}
use Rattle.sto_explore.specs.Branches.{offer_of, offers_to}
use Rattle.sto_explore.proofs.branch.offer.Given as goal

-- the branches so far and those that are left are all
abbrev pub invariant-loop-next : goal.invariant-loop-next
invariant-loop-next l = map offer_of l.todo.items ++ offers_to l.decided l.left (drop l.next-index l.threads) ≡ map offer_of l.fn.todo.items ++ offers_to l.decided l.left l.threads
