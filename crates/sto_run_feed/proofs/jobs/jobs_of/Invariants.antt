use Rattle.std.proofs.Common.{◌≡◌, map, take}
use Rattle.sto_run_feed.specs.Orders.{place_of}
use Rattle.sto_run_feed.specs.Jobs.{run_of, going_to}
use Rattle.sto_run_feed.proofs.jobs.jobs_of.Given as goal

abbrev pub invariant-loop-place : goal.invariant-loop-place
invariant-loop-place l = record { jobs : l.jobs.items ≡ map run_of (going_to l.queues l.number (map place_of (take l.place-index l.order))) }
