-- A worker takes a job.
use Rattle.std.specs.Prelude.{Some, slice_get}
use Rattle.std.proofs.Common.{◌≡◌, ℕ, ◌+◌, List, get_or, refl, sym, ap, subst}
use Rattle.sto_run_feed.specs.declared.job.Job.{Job}
use Rattle.sto_run_feed.specs.declared.known.Known.{Known}
use Rattle.sto_run_feed.specs.declared.pass.JobQueue.{JobQueue}
use Rattle.sto_run_feed.specs.declared.pass.JobPass.{JobPass}
use Rattle.sto_run_feed.specs.Queues.{working}
use Rattle.sto_run_feed.specs.Passes.{IsPass, known}
use Rattle.sto_run_feed.specs.QueuePasses.{IsAt}
use Rattle.sto_run_feed.proofs.Passes.{at_of, of_at}

-- a pass that knows so much may take
pub may_take : (queues : List JobQueue) (number : ℕ) (q : JobQueue) (p : JobPass) (jobs : List Job) (taken : ℕ) → IsAt queues number p (working jobs taken) → q ≡ get_or queues number q
    → IsPass q p (working (known p).jobs (known p).taken)
may_take queues number q p jobs taken h is =
    let k = of_at queues number q p (working jobs taken) is h in
    subst (λ (v : Known). IsPass q p (working v.jobs v.taken)) (sym k.known) k

-- it has taken the next job
pub record HasTakenNext (queues : List JobQueue) (number : ℕ) (jobs : List Job) (taken : ℕ) (r : JobPass) (job : Job) : Type 0 where
  pub at : IsAt queues number r (working jobs (known r).taken)
  pub one : (known r).taken ≡ taken + 1
  pub next : slice_get jobs taken ≡ Some job

pub takes_next : (queues : List JobQueue) (number : ℕ) (q : JobQueue) (p r : JobPass) (jobs : List Job) (job : Job) → IsAt queues number p (working jobs (known p).taken) → q ≡ get_or queues number q
    → slice_get (known p).jobs (known p).taken ≡ Some job → IsPass q r (working (known p).jobs ((known p).taken + 1)) → HasTakenNext queues number jobs (known p).taken r job
takes_next queues number q p r jobs job h is next taken =
    let same : (known p).jobs ≡ jobs = ap (λ (v : Known). v.jobs) (of_at queues number q p (working jobs (known p).taken) is h).known in
    let new : IsPass q r (working jobs ((known p).taken + 1)) = subst (λ (l : List Job). IsPass q r (working l ((known p).taken + 1))) same taken in
    let one : (known r).taken ≡ (known p).taken + 1 = ap (λ (v : Known). v.taken) new.known in record {
      at = at_of queues number q r (working jobs (known r).taken) h.within is (subst (λ (n : ℕ). IsPass q r (working jobs n)) (sym one) new);
      one = one;
      next = subst (λ (l : List Job). slice_get l (known p).taken ≡ Some job) same next;
    }
