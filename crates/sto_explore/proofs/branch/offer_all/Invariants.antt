use Rattle.std.proofs.Common.{◌≡◌, ◌++◌, map, take, drop}
use Rattle.sto_explore.specs.Branches.{offer_of, offered}
use Rattle.sto_explore.proofs.branch.offer_all.Given as goal

-- the branches so far and those at the legs that are left are all
abbrev pub invariant-loop-place : goal.invariant-loop-place
invariant-loop-place l = record {
  todo : map offer_of l.todo.items ++ offered l.decided.items l.left (drop l.place l.order) (drop l.place l.legs) ≡ map offer_of l.fn.todo.items ++ offered l.fn.decided.items l.left l.order l.legs;
  legs : l.decided.items ≡ l.fn.decided.items ++ take l.place l.legs;
}
