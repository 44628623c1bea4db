-- Queues are opened, one by one.
use Rattle.std.specs.List.{All}
use Rattle.std.proofs.Common.{◌≡◌, ℕ, suc, ◌+◌, List, [], ◌∷◌, ◌++◌, map, length, refl, sym, ap, ◌∙◌, subst, arith}
use Rattle.std.proofs.lemmas.List.{map-append}
use Rattle.std.proofs.lemmas.List.Elements.{All-append, All-weaker}
use Rattle.sto_part.specs.declared.naming.Naming as naming
use Rattle.sto_run_feed.specs.declared.job.Job.{Job}
use Rattle.sto_run_feed.specs.declared.known.Known.{Known}
use Rattle.sto_run_feed.specs.declared.pass.JobQueue.{JobQueue}
use Rattle.sto_run_feed.specs.declared.pass.JobPass.{JobPass}
use Rattle.sto_run_feed.specs.Queues.{working}
use Rattle.sto_run_feed.specs.Passes.{IsPass, known}
use Rattle.sto_run_threads.specs.Orders.{TransactionPlace, IsOrder, numbers_from}
use Rattle.sto_serializability.proofs.Working.{numbers_more}
use Rattle.sto_table.specs.declared.shared.Shared.{Shared}
use Rattle.sto_run_threads.specs.Plans.{Plan}
use Rattle.sto_run_threads.specs.Teams.{IsReady}
use Rattle.sto_run_threads.proofs.Claiming.{all_one}
use Rattle.sto_run_feed.specs.Jobs.{jobs_for, AreJobs}
use Rattle.sto_run_feed.specs.Served.{IsPosted}
use Rattle.sto_run_feed.specs.declared.server.QueueWorker.{QueueWorker}
use Rattle.sto_run_feed.proofs.Going.{are_jobs}
use Rattle.sto_run_feed.proofs.Passes.{at_more, at_last}

-- the jobs that a new worker's pass knows
pub jobs_known : (q : JobQueue) (p : JobPass) (jobs : List Job) → IsPass q p (working jobs 0) → (known p).jobs ≡ jobs
jobs_known q p jobs h = ap (λ (v : Known). v.jobs) h.known

module _ {T : Type 0} {n : naming.Ghosts T} (s : Shared T) (queues : List JobQueue) (queue : JobQueue) (count : ℕ) (plan : Plan) where
  -- the worker of a new queue
  pub posted_last : (order : List TransactionPlace) (jobs : List Job) (w : QueueWorker T n) → IsOrder plan.file order → jobs ≡ jobs_for count w.number order
      → w.number ≡ length queues → IsPass queue w.worker (working jobs 0) → IsReady s plan w.rest → IsPosted s (queues ++ queue ∷ []) count plan w
  posted_last order jobs w ordered is last pass ready =
      let same = jobs_known queue w.worker jobs pass in record {
        ready = ready;
        at = at_last queues queue w.number w.worker (working (known w.worker).jobs 0) last (subst (λ (l : List Job). IsPass queue w.worker (working l 0)) (sym same) pass);
        own = subst (AreJobs plan.file count w.number) (sym (same ∙ is)) (are_jobs plan.file count w.number order ordered);
      }

  -- with those of the earlier ones
  pub posted_more : (all : List (QueueWorker T n)) (w : QueueWorker T n) → All (IsPosted s queues count plan) all → IsPosted s (queues ++ queue ∷ []) count plan w
      → All (IsPosted s (queues ++ queue ∷ []) count plan) (all ++ w ∷ [])
  posted_more all w h last =
      All-append (IsPosted s (queues ++ queue ∷ []) count plan) all (w ∷ [])
      (All-weaker (IsPosted s queues count plan) (IsPosted s (queues ++ queue ∷ []) count plan)
      (λ x p. record { ready = p.ready; at = at_more queues queue x.number x.worker (working (known x.worker).jobs 0) p.at; own = p.own }) all h)
      (all_one (IsPosted s (queues ++ queue ∷ []) count plan) w last)

-- what is listed of workers in the order of their numbers
pub listed_more : {X Y : Type 0} (f : X → Y) (g : ℕ → Y) (all : List X) (x : X) (n k : ℕ) → map f all ≡ map g (numbers_from 0 n) → f x ≡ g n → k ≡ n + 1 → map f (all ++ x ∷ []) ≡ map g (numbers_from 0 k)
listed_more f g all x n k h last more =
    map-append f all (x ∷ [])
    ∙ ap (λ (l : List _). l ++ f x ∷ []) h
    ∙ ap (λ (y : _). map g (numbers_from 0 n) ++ y ∷ []) last
    ∙ sym (ap (map g) (numbers_more 0 n ∙ ap (λ (j : ℕ). numbers_from 0 n ++ j ∷ []) (let z : 0 + n ≡ n = omega arith in z)) ∙ map-append g (numbers_from 0 n) (n ∷ []))
    ∙ ap (λ (j : ℕ). map g (numbers_from 0 j)) (let e : suc n ≡ k = omega (arith, more) in e)

numbers_plain : (xs : List ℕ) → map (λ (n : ℕ). n) xs ≡ xs
numbers_plain [] = refl
numbers_plain (x ∷ xs) = ap (λ (l : List ℕ). x ∷ l) (numbers_plain xs)

pub numbered_more : {X : Type 0} (f : X → ℕ) (all : List X) (x : X) (n k : ℕ) → map f all ≡ numbers_from 0 n → f x ≡ n → k ≡ n + 1 → map f (all ++ x ∷ []) ≡ numbers_from 0 k
numbered_more f all x n k h last more =
    listed_more f (λ (j : ℕ). j) all x n k (h ∙ sym (numbers_plain (numbers_from 0 n))) last more ∙ numbers_plain (numbers_from 0 k)
