-- Which jobs go to which queue.
use Rattle.std.specs.Prelude.{◌≡◌, ℕ, ◌%◌, List, [], ◌∷◌, ◌++◌, map, filter, Bool, nat_eq}
use Rattle.sto_run_feed.specs.declared.job.Job.{Job}
use Rattle.sto_run_feed.specs.declared.job.Job.TheVariants.{Run, Last}
use Rattle.sto_run_feed.specs.Queues.{EndsWithLast}
use Rattle.sto_run_threads.specs.Scripts.{File}
use Rattle.sto_run_threads.specs.Orders.{TransactionPlace, positions_of, numbers_from, count_in}

-- the job to run a transaction
abbrev pub run_of : TransactionPlace → Job
run_of place = Run place.0 place.1

-- the transaction is one of a thread that goes to the queue with the number, of so many
abbrev pub goes_to : ℕ → ℕ → TransactionPlace → Bool
goes_to queues number place = nat_eq (place.0 % queues) number

-- the transactions of an order that go to the queue
abbrev pub going_to : ℕ → ℕ → List TransactionPlace → List TransactionPlace
going_to queues number order = filter (goes_to queues number) order

-- the jobs of the queue: the transactions of an order that go to it, and the end mark
abbrev pub jobs_for : ℕ → ℕ → List TransactionPlace → List Job
jobs_for queues number order = map run_of (going_to queues number order) ++ Last ∷ []

-- those of each of so many queues
abbrev pub all_jobs : ℕ → List TransactionPlace → List (List Job)
all_jobs queues order = map (λ number. jobs_for queues number order) (numbers_from 0 queues)

-- the transactions that jobs name
abbrev pub places_of : List Job → List TransactionPlace
places_of [] = []
places_of (Run thread position ∷ jobs) = (thread, position) ∷ places_of jobs
places_of (Last ∷ jobs) = places_of jobs

-- jobs of the queue: all transactions of the threads that go to it, those of a thread in rising position, and the end mark
pub record AreJobs (file : File) (queues number : ℕ) (jobs : List Job) : Type 0 where
  pub last : EndsWithLast jobs
  pub own : (thread : ℕ) → thread % queues ≡ number → positions_of thread (places_of jobs) ≡ numbers_from 1 (count_in file.threads thread)
  pub others : (thread : ℕ) → (thread % queues ≡ number → ⊥) → positions_of thread (places_of jobs) ≡ []
