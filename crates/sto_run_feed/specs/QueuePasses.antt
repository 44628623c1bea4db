-- Queues in the order of their numbers, and passes of them.
use Rattle.std.specs.Prelude.{◌≡◌, ◌<◌, ◌+◌, ℕ, List, [], ◌∷◌, length, Some, Vec, slice_get, slice_index_or}
use Rattle.sto_run_feed.specs.declared.job.Job.{Job}
use Rattle.sto_run_feed.specs.declared.known.Known.{Known}
use Rattle.sto_run_feed.specs.declared.pass.JobQueue.{JobQueue}
use Rattle.sto_run_feed.specs.declared.pass.JobPass.{JobPass}
use Rattle.sto_run_feed.specs.Queues.{feeding, working}
use Rattle.sto_run_feed.specs.Passes.{IsPass, known}
use Rattle.sto_run_threads.specs.Orders.{TransactionPlace as Place}
use Rattle.sto_run_feed.specs.Jobs.{going_to, jobs_for}
use Rattle.sto_run_feed.specs.Orders.{places_in}
use Rattle.sto_run_feed.specs.declared.order.TransactionPlace.{TransactionPlace}

-- all of the jobs were sent; all of them were taken
abbrev pub all_sent : List Job → Known
all_sent jobs = feeding jobs (length jobs)

abbrev pub all_taken : List Job → Known
all_taken jobs = working jobs (length jobs)

-- the pass is of the queue with the number, and knows v
pub record IsAt (queues : List JobQueue) (number : ℕ) (pass : JobPass) (v : Known) : Type 0 where
  pub within : number < length queues
  pub of : (q : JobQueue) → IsPass (slice_index_or queues number q) pass v

-- a pass of each queue, in their order, and what the one with a number knows
pub record AreAt (queues : List JobQueue) (passes : List JobPass) (v : ℕ → Known) : Type 0 where
  pub many : length passes ≡ length queues
  pub each : (number : ℕ) (p : JobPass) → number < length queues → IsAt queues number (slice_index_or passes number p) (v number)

-- passes to send the transactions of an order with, to so many queues: none was sent yet, and all were
abbrev pub AreUnsent : ℕ → List JobQueue → List JobPass → List Place → Type 0
AreUnsent count queues feeders order = AreAt queues feeders (λ number. feeding (jobs_for count number order) 0)

abbrev pub AreSent : ℕ → List JobQueue → List JobPass → List Place → Type 0
AreSent count queues feeders order = AreAt queues feeders (λ number. all_sent (jobs_for count number order))

-- passes of all queues, to send this order with: none of it was sent, all of it but the end marks, and all
abbrev pub MayFeed : {A : Type 0} → List JobQueue → List TransactionPlace → Vec JobPass A → Type 0
MayFeed queues order feeders = AreUnsent (length queues) queues feeders.items (places_in order)

abbrev pub HaveFedRuns : {A : Type 0} → List JobQueue → List TransactionPlace → Vec JobPass A → Type 0
HaveFedRuns queues order feeders =
    AreAt queues feeders.items (λ n. feeding (jobs_for (length queues) n (places_in order)) (length (going_to (length queues) n (places_in order))))

abbrev pub HaveFed : {A : Type 0} → List JobQueue → List TransactionPlace → Vec JobPass A → Type 0
HaveFed queues order feeders = AreSent (length queues) queues feeders.items (places_in order)

-- some jobs were all sent with the first passes, and all taken with the others
abbrev pub AreDrained : List JobQueue → List JobPass → List JobPass → Type 0
AreDrained queues feeders workers = (jobs : ℕ → List Job) × AreAt queues feeders (λ n. all_sent (jobs n)) × AreAt queues workers (λ n. all_taken (jobs n))

-- a pass to take with knows what it has taken; the job is the next one; and that one was taken
abbrev pub IsWorking : JobQueue → JobPass → Type 0
IsWorking queue pass = IsPass queue pass (working (known pass).jobs (known pass).taken)

abbrev pub IsNextJob : JobPass → Job → Type 0
IsNextJob pass job = slice_get (known pass).jobs (known pass).taken ≡ Some job

abbrev pub TakesOne : JobQueue → JobPass → JobPass → Type 0
TakesOne queue pass later = IsPass queue later (working (known pass).jobs ((known pass).taken + 1))

-- passes of the queues with these numbers, which have taken all of these jobs
abbrev pub HaveTaken : List JobQueue → List ℕ → List (List Job) → List JobPass → Type 0
HaveTaken queues [] [] [] = Unit {0}
HaveTaken queues (number ∷ numbers) (jobs ∷ all) (pass ∷ passes) = IsAt queues number pass (all_taken jobs) × HaveTaken queues numbers all passes
HaveTaken queues numbers all passes = ⊥
