use Rattle.std.proofs.Common.{◌≡◌, ◌+◌, ◌++◌, map, length}
use Rattle.std.specs.List.{All}
use Rattle.std.specs.Vec.{vec_len}
use Rattle.sto_run_threads.specs.Teams.{IsReady, IsHired, view_at, views_of, seats_of, IsNew}
use Rattle.sto_run_threads.specs.Accounts.{Gathers}
use Rattle.sto_run_threads.proofs.all.hire.Given as goal

abbrev pub invariant-loop-rest : goal.invariant-loop-rest
invariant-loop-rest g l = record {
  many : length l.rests.items ≡ length l.claimers.items;
  ready : All (IsReady l.shared (g.W.Work.plan l.work)) l.rests.items;
  new : All (IsNew l.claims) l.claimers.items;
  hired : All (IsHired l.shared l.claims (g.W.Work.plan l.work)) l.workers.items;
  all : vec_len l.workers + length l.rests.items ≡ length l.fn.rests.items;
  gathered : Gathers (views_of l.workers.items ++ map view_at l.rests.items) (map view_at l.fn.rests.items);
  seats : seats_of l.workers.items + length l.claimers.items ≡ length l.fn.claimers.items;
}

abbrev pub decreases-loop-rest : goal.decreases-loop-rest
decreases-loop-rest g l = length l.rests.items
