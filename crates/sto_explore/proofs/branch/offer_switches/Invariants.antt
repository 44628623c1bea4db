use Rattle.std.proofs.Common.{◌≡◌, ◌≤◌, ◌++◌, ◌-◌, map}
use Rattle.sto_explore.specs.Branches.{offer_of, offers_within}
use Rattle.sto_explore.proofs.branch.offer_switches.Given as goal

-- the switches after the turns so far
abbrev pub invariant-loop-turns : goal.invariant-loop-turns
invariant-loop-turns l = record {
  todo : map offer_of l.todo.items ≡ map offer_of l.fn.todo.items ++ offers_within l.fn.decided.items (l.left - 1) l.threads l.leg.thread (l.turns - 1);
  same : l.decided.items ≡ l.fn.decided.items;
  within : l.turns - 1 ≤ l.leg.turns - 1;
}
