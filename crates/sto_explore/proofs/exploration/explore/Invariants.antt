use Rattle.std.proofs.Common.{◌≤◌, map, max}
use Rattle.sto_explore.specs.Branches.{offer_of}
use Rattle.sto_explore.specs.Explored.{start_of}
use Rattle.sto_explore.specs.Exploring.{IsUnderWay}
use Rattle.sto_explore.proofs.exploration.explore.Given as goal

-- so many runs were made
abbrev pub invariant-loop-made : goal.invariant-loop-made
invariant-loop-made g l = record {
  under_way : IsUnderWay (start_of l.switches (g.R.Runs.threads l.runs)) (g.R.Runs.tells l.runs) (g.R.Runs.reports l.runs) (g.G.Gathers.holds l.found) l._made (map offer_of l.todo.items);
  keeps : g.R.Runs.keeps l.runs l.kept;
  within : l._made ≤ max 1 l.limit;
}
