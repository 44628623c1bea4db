-- What workers have done that took jobs from queues.
use Rattle.std.specs.Prelude.{◌≡◌, ◌⊎◌, ◌≤◌, ◌+◌, ℕ, ◌%◌, suc, List, [], ◌∷◌, ◌++◌, length, map, take, drop, Vec, Bool, true, false, Some, slice_get}
use Rattle.std.specs.List.{All}
use Rattle.sto_part.specs.declared.naming.Naming as naming
use Rattle.std.specs.Vec.{vec_len}
use Rattle.sto_core.specs.declared.cells.Cells as cells
use Rattle.sto_core.specs.declared.view.View.{View}
use Rattle.sto_core.specs.Gathered.{gathered_into}
use Rattle.sto_table.specs.Taken.{times}
use Rattle.sto_run_threads.specs.Orders.{TransactionPlace as Place}
use Rattle.sto_run_feed.specs.declared.job.Job.{Job}
use Rattle.sto_run_feed.specs.declared.pass.JobQueue.{JobQueue}
use Rattle.sto_run_feed.specs.Queues.{working}
use Rattle.sto_run_feed.specs.Passes.{known}
use Rattle.sto_table.specs.declared.shared.Shared.{Shared}
use Rattle.sto_transaction.specs.declared.record.Record as code
use Rattle.sto_table.specs.Rests.{IsOf}
use Rattle.sto_run_threads.specs.Records.{Record}
use Rattle.sto_run_threads.specs.Counted.{aborted_times, finished_places}
use Rattle.sto_run_threads.specs.Running.{ended_of, HasNone}
use Rattle.sto_run_threads.specs.Worked.{HasWorked, HasSpared, AddsTo, AbortsNone}
use Rattle.sto_run_threads.specs.declared.all.Worked.{Worked}
use Rattle.sto_run_threads.specs.declared.one.Work as work
use Rattle.sto_run_threads.specs.Accounts.{HasGathered, Leads}
use Rattle.sto_run_threads.specs.Plans.{Plan, draws_of}
use Rattle.sto_run_threads.specs.Told.{told_in}
use Rattle.sto_run_threads.specs.Teams.{IsReady, HasMade, view_at}
use Rattle.sto_run_feed.specs.Jobs.{places_of, all_jobs, AreJobs}
use Rattle.sto_run_feed.specs.Orders.{places_in}
use Rattle.sto_run_feed.specs.declared.order.TransactionPlace.{TransactionPlace}
use Rattle.sto_run_feed.specs.QueuePasses.{IsAt, HaveTaken}
use Rattle.sto_run_feed.specs.declared.server.QueueWorker.{QueueWorker}
use Rattle.sto_run_feed.specs.declared.server.ServingTeam.{ServingTeam}

-- The records are those of a worker that took all of the jobs: the first so many transactions were run to their end, in the order of
-- the jobs, and no other. Either these are all, or the next one used up its tries, and it and all later ones were handed back.
pub record HasServed (tries : ℕ) (jobs : List Job) (rs : List Record) : Type 0 where
  pub ran : ℕ
  pub within : ran ≤ length (places_of jobs)
  pub ended : finished_places rs ≡ take ran (places_of jobs)
  pub back : (ran ≡ length (places_of jobs)) ⊎ ((place : Place) × (slice_get (places_of jobs) ran ≡ Some place) × (aborted_times place rs ≡ tries))

-- worker after worker, they are those of workers that took these jobs
abbrev pub HaveServed : ℕ → List (List Job) → List Record → Type 0
HaveServed tries [] rs = rs ≡ []
HaveServed tries (jobs ∷ all) rs = (first : List Record) × (later : List Record) × (rs ≡ first ++ later) × HasServed tries jobs first × HaveServed tries all later

-- a thread that goes to none of the queues with these numbers, of so many, has no records
abbrev pub AreFrom : ℕ → List ℕ → List Record → Type 0
AreFrom queues numbers rs = (thread : ℕ) → times (thread % queues) numbers ≡ 0 → HasNone thread rs

module _ {T : Type 0} {n : naming.Ghosts T} where
  -- the numbers of the workers' queues, the jobs that are in them, and what the workers' passes know
  abbrev pub numbers_of : List (QueueWorker T n) → List ℕ
  numbers_of servers = map (λ w. w.number) servers

  abbrev pub jobs_in : List (QueueWorker T n) → List (List Job)
  jobs_in servers = map (λ w. (known w.worker).jobs) servers

  abbrev pub views_of : List (QueueWorker T n) → List View
  views_of servers = map (λ w. view_at w.rest) servers

  -- no two workers take from one queue
  abbrev pub AreApart : List (QueueWorker T n) → Type 0
  AreApart servers = (number : ℕ) → times number (numbers_of servers) ≤ 1

  -- a pass at rest, beside a pass of its queue, of so many, that has taken nothing yet
  pub record IsPosted (s : Shared T) (queues : List JobQueue) (count : ℕ) (plan : Plan) (w : QueueWorker T n) : Type 0 where
    pub ready : IsReady s plan w.rest
    pub at : IsAt queues w.number w.worker (working (known w.worker).jobs 0)
    pub own : AreJobs plan.file count w.number (known w.worker).jobs

  -- that of each
  abbrev pub ArePosted : Shared T → List JobQueue → Plan → List (QueueWorker T n) → Type 0
  ArePosted s queues plan servers = All (IsPosted s queues (length queues) plan) servers

  -- they are the first so many of these workers, and all others
  pub record AreHalves {A : Type 0} (half : ℕ) (servers first others : Vec (QueueWorker T n) A) : Type 0 where
    pub items : first.items ≡ take half servers.items
    pub len : vec_len first ≡ half
    pub tail : others.items ≡ drop half servers.items
    pub tail_len : vec_len others + half ≡ vec_len servers
    pub apart : AreApart first.items
    pub tail_apart : AreApart others.items

  -- the work may be run, and there are workers for it, each with its queue
  pub record CanServe {W A : Type 0} (works : work.Ghosts W T) (w : W) (s : Shared T) (queues : List JobQueue) (servers : Vec (QueueWorker T n) A) : Type 0 where
    pub ready : works.ready w
    pub some : 1 ≤ vec_len servers
    pub posted : ArePosted s queues (works.plan w) servers.items
    pub apart : AreApart servers.items

  -- what workers of the queues with these numbers have done, who took these jobs
  pub record IsServed (s : Shared T) (queues : List JobQueue) (plan : Plan) (numbers : List ℕ) (jobs : List (List Job)) (team : ServingTeam T n) : Type 0 where
    pub made : HasMade s plan team.rest (told_in team.records)
    pub own : AreFrom (length queues) numbers (told_in team.records)
    -- beside no other pass no attempt was aborted
    pub alone : s.table.shared.key.passes ≡ 1 → AbortsNone [] (told_in team.records)
    pub taken : HaveTaken queues numbers jobs team.workers.items
    pub served : HaveServed plan.tries jobs (told_in team.records)

  -- two teams were gathered into one
  pub record IsOfBoth (s : Shared T) (first other team : ServingTeam T n) : Type 0 where
    pub of : IsOf s team.rest.seat
    pub view : view_at team.rest ≡ gathered_into (view_at first.rest) (view_at other.rest)
    pub records : told_in team.records ≡ told_in first.records ++ told_in other.records
    pub workers : team.workers.items ≡ first.workers.items ++ other.workers.items

  -- these workers have served their queues, and were gathered into the team
  pub record IsTeamOf (s : Shared T) (queues : List JobQueue) (plan : Plan) (servers : List (QueueWorker T n)) (team : ServingTeam T n) : Type 0 where
    pub served : IsServed s queues plan (numbers_of servers) (jobs_in servers) team
    pub gathered : HasGathered (draws_of plan) (views_of servers) (view_at team.rest) (told_in team.records)

  -- workers have served so many queues, to which the transactions of an order go
  abbrev pub HaveServedInTurn : Plan → ℕ → List TransactionPlace → Worked T n → Type 0
  HaveServedInTurn plan queues order all = HaveServed plan.tries (all_jobs queues (places_in order)) (told_in all.records)

-- a transaction is the next one of its thread, none of its attempts was aborted, and those before it had a try left
abbrev pub ComesNext : ℕ → Place → List Record → Type 0
ComesNext tries place rs = (suc (ended_of place.0 rs) ≡ place.1) × (aborted_times place rs ≡ 0) × HasSpared tries place.0 rs

-- a transaction was run, or is handed back since an earlier one was
pub record IsJobRun (plan : Plan) (passes : ℕ) (w : View) (place : Place) (rs later : List Record) (runs on : Bool) : Type 0 where
  pub worked : HasWorked plan w later
  pub adds : AddsTo place.0 rs later
  pub ended : on ≡ true → (runs ≡ true) × (finished_places later ≡ finished_places rs ++ place ∷ [])
      × (aborted_times (place.0, suc (ended_of place.0 later)) later ≡ 0) × HasSpared plan.tries place.0 later
  pub used : on ≡ false → runs ≡ true → (finished_places later ≡ finished_places rs) × (aborted_times place later ≡ plan.tries)
  pub still : runs ≡ false → (on ≡ false) × (later ≡ rs)
  pub alone : passes ≡ 1 → AbortsNone rs later

-- the same of a pass, by what its trait says
module _ {C T A : Type 0} (c : cells.Ghosts C T) (plan : Plan) (here there : C) where
  abbrev pub LeadsOn : Vec code.Record A → Vec code.Record A → Type 0
  LeadsOn before later = Leads plan plan.tries (c.view here) (c.view there) (told_in before) (told_in later)

  abbrev pub RunsJob : Place → Vec code.Record A → Vec code.Record A → Bool → Bool → Type 0
  RunsJob place before later runs on = IsJobRun plan (c.passes here) (c.view there) place (told_in before) (told_in later) runs on
