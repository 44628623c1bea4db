use Rattle.std.specs.List.{All}
use Rattle.std.proofs.Common.{◌≡◌, ◌+◌, ◌++◌, map, length}
use Rattle.sto_run_threads.specs.Orders.{numbers_from}
use Rattle.sto_run_threads.specs.Teams.{IsReady, view_at}
use Rattle.sto_run_feed.specs.Jobs.{jobs_for}
use Rattle.sto_run_feed.specs.Served.{IsPosted, views_of, numbers_of, jobs_in}
use Rattle.sto_run_threads.specs.Accounts.{Gathers}
use Rattle.sto_run_feed.specs.QueuePasses.{AreUnsent}
use Rattle.sto_run_feed.specs.Orders.{places_in}
use Rattle.sto_run_feed.proofs.station.open_stations.Given as goal

abbrev pub invariant-loop-rest : goal.invariant-loop-rest
invariant-loop-rest g l = record {
  count : l.count ≡ length l.fn.rests.items;
  all : length l.queues.items + length l.rests.items ≡ l.count;
  ready : All (IsReady l.shared (g.W.Work.plan l.work)) l.rests.items;
  feeders : AreUnsent l.count l.queues.items l.feeders.items (places_in l.order);
  posted : All (IsPosted l.shared l.queues.items l.count (g.W.Work.plan l.work)) l.servers.items;
  numbers : numbers_of l.servers.items ≡ numbers_from 0 (length l.queues.items);
  jobs : jobs_in l.servers.items ≡ map (λ n. jobs_for l.count n (places_in l.order)) (numbers_from 0 (length l.queues.items));
  gathered : Gathers (views_of l.servers.items ++ map view_at l.rests.items) (map view_at l.fn.rests.items);
}

abbrev pub decreases-loop-rest : goal.decreases-loop-rest
decreases-loop-rest g l = length l.rests.items
