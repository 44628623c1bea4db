-- What contracts say of a queue of jobs and its passes.
use Rattle.std.specs.Prelude.{◌≡◌, length}
use Rattle.crossbeam_queue.specs.Passes.{view, IsPassOf, ruled_capacity}
use Rattle.crossbeam_queue.specs.Fifo.{Held}
use Rattle.sto_run_feed.specs.declared.known.Known.{Known}
use Rattle.sto_run_feed.specs.declared.pass.JobQueue.{JobQueue}
use Rattle.sto_run_feed.specs.declared.pass.JobPass.{JobPass}
use Rattle.sto_run_feed.specs.Queues.{AreNext}

-- what the pass knows
abbrev pub known : JobPass → Known
known p = view p.seat

-- it is a pass of this queue and knows v, and the queue has room for all of its jobs
pub record IsPass (q : JobQueue) (p : JobPass) (v : Known) : Type 0 where
  pub of : p.seat.table_id ≡ q.ring.table.shared.table_id
  pub known : known p ≡ v
  pub room : ruled_capacity q.ring ≡ length v.jobs

-- at the step the queue held no job: all that were sent were taken
abbrev pub WasEmpty : Known → Type 0
WasEmpty v = Held 0 (AreNext v)
