-- Queues that were opened, with the workers that take from them.
use Rattle.std.specs.Prelude.{◌≡◌, List, length, map}
use Rattle.sto_part.specs.declared.naming.Naming as naming
use Rattle.sto_table.specs.declared.shared.Rest.{Rest}
use Rattle.sto_table.specs.declared.shared.Shared.{Shared}
use Rattle.sto_run_threads.specs.Orders.{numbers_from}
use Rattle.sto_run_threads.specs.Plans.{Plan}
use Rattle.sto_run_threads.specs.Accounts.{Gathers}
use Rattle.sto_run_threads.specs.Teams.{view_at}
use Rattle.sto_run_feed.specs.Orders.{places_in}
use Rattle.sto_run_feed.specs.Jobs.{all_jobs}
use Rattle.sto_run_feed.specs.QueuePasses.{AreUnsent}
use Rattle.sto_run_feed.specs.Served.{ArePosted, numbers_of, jobs_in, views_of}
use Rattle.sto_run_feed.specs.declared.order.TransactionPlace.{TransactionPlace}
use Rattle.sto_run_feed.specs.declared.station.Stations.{Stations}

-- a queue for each pass at rest, in the order of their numbers, for the transactions of an order that go to it: passes to send with, and
-- workers
pub record AreOpened {T : Type 0} {n : naming.Ghosts T} (s : Shared T) (plan : Plan) (order : List TransactionPlace) (rests : List (Rest T n)) (all : Stations T n) : Type 0 where
  pub queues : length all.queues.items ≡ length rests
  pub feeders : AreUnsent (length rests) all.queues.items all.feeders.items (places_in order)
  pub posted : ArePosted s all.queues.items plan all.servers.items
  pub numbers : numbers_of all.servers.items ≡ numbers_from 0 (length rests)
  pub jobs : jobs_in all.servers.items ≡ all_jobs (length rests) (places_in order)
  pub gathered : Gathers (views_of all.servers.items) (map view_at rests)
