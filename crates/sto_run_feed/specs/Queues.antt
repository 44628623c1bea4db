-- The rule of a queue of jobs, over what it holds and what its passes know.
use Rattle.std.specs.Prelude.{◌≡◌, ◌⊎◌, ◌≤◌, ◌+◌, ◌-◌, ℕ, suc, List, [], ◌∷◌, ◌++◌, length, take, drop, Some, slice_get}
use Rattle.std.specs.List.{All}
use Rattle.sto_run_feed.specs.declared.job.Job.{Job}
use Rattle.sto_run_feed.specs.declared.job.Job.TheVariants.{Run, Last}
use Rattle.sto_run_feed.specs.declared.known.Side.TheVariants.{Unopened, Feeder, Worker, Joined, Spent}
use Rattle.sto_run_feed.specs.declared.known.Known.{Known}

abbrev pub IsRun : Job → Type 0
IsRun (Run thread position) = Unit {0}
IsRun Last = ⊥

-- the jobs end with the only Last
abbrev pub EndsWithLast : List Job → Type 0
EndsWithLast jobs = (runs : List Job) × All IsRun runs × (jobs ≡ runs ++ Last ∷ [])

-- the one pass of a queue that is not open yet knows nothing
abbrev pub unopened : Known
unopened = record { side = Unopened; jobs = []; sent = 0; taken = 0 }

-- the feeder knows the jobs, and how many of them it has sent
abbrev pub feeding : List Job → ℕ → Known
feeding jobs sent = record { side = Feeder; jobs = jobs; sent = sent; taken = 0 }

-- the worker knows the jobs, and how many of them it has taken
abbrev pub working : List Job → ℕ → Known
working jobs taken = record { side = Worker; jobs = jobs; sent = 0; taken = taken }

abbrev pub joined : List Job → ℕ → ℕ → Known
joined jobs sent taken = record { side = Joined; jobs = jobs; sent = sent; taken = taken }

abbrev pub spent : Known
spent = record { side = Spent; jobs = []; sent = 0; taken = 0 }

-- the queue holds the jobs from the taken to the sent, in order
pub record AreBetween (jobs : List Job) (sent taken : ℕ) (items : List Job) : Type 0 where
  pub behind : taken ≤ sent
  pub within : sent ≤ length jobs
  pub held : items ≡ take (sent - taken) (drop taken jobs)

-- before the split the queue is empty
pub record IsUnopened (items : List Job) (views : List Known) : Type 0 where
  pub empty : items ≡ []
  pub known : views ≡ unopened ∷ []

-- after it the feeder and the worker know the same jobs
pub record IsOpened (items : List Job) (views : List Known) : Type 0 where
  pub jobs : List Job
  pub sent : ℕ
  pub taken : ℕ
  pub known : views ≡ feeding jobs sent ∷ working jobs taken ∷ []
  pub holds : AreBetween jobs sent taken items

-- after the join one pass knows all of it
pub record IsJoined (items : List Job) (views : List Known) : Type 0 where
  pub jobs : List Job
  pub sent : ℕ
  pub taken : ℕ
  pub known : views ≡ joined jobs sent taken ∷ spent ∷ []
  pub holds : AreBetween jobs sent taken items

-- The rule. No step but the split changes the jobs; what a join leaves spent is excepted.
abbrev pub Keeps : List Job → List Known → Type 0
Keeps items views = IsUnopened items views ⊎ (IsOpened items views ⊎ IsJoined items views)

-- the feeder sent the job x, which follows those sent before
abbrev pub HasSent : Known → Job → Known → Type 0
HasSent v x w = w ≡ feeding v.jobs (v.sent + 1)

-- the worker took the job x, which follows those taken before
abbrev pub HasTaken : Known → Job → Known → Type 0
HasTaken v x w = (slice_get v.jobs v.taken ≡ Some x) × (w ≡ working v.jobs (v.taken + 1))

-- the queue holds at most what the feeder has sent
abbrev pub AreFew : Known → List Job → Type 0
AreFew v items = length items ≤ v.sent

-- the queue holds what was sent and not yet taken
abbrev pub AreNext : Known → List Job → Type 0
AreNext v items = (sent : ℕ) × AreBetween v.jobs sent v.taken items
