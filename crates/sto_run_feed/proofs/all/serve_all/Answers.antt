use Rattle.std.proofs.Common.{rules, ◌≡◌, ◌≤◌, ℕ, List, length, map, sym, ap, subst, arith}
use Rattle.std.proofs.lemmas.List.{length-map}
use Rattle.sto_table.specs.Taken.{times}
use Rattle.sto_run_threads.specs.Orders.{TransactionPlace, numbers_from}
use Rattle.sto_run_feed.specs.declared.job.Job.{Job}
use Rattle.sto_run_feed.specs.declared.pass.JobQueue.{JobQueue}
use Rattle.sto_run_threads.proofs.Threads.{length_numbers}
use Rattle.sto_run_feed.specs.declared.server.QueueWorker.{QueueWorker}
use Rattle.sto_run_feed.specs.Jobs.{jobs_for}
use Rattle.sto_run_feed.specs.QueuePasses.{HaveTaken, AreUnsent, AreSent}
use Rattle.sto_run_feed.proofs.Gathered.{numbers_once}
use Rattle.sto_run_feed.proofs.Passes.{taken_all}
use Rattle.sto_run_threads.specs.Plans.{draws_of}
use Rattle.sto_run_threads.specs.Told.{told_in}
use Rattle.sto_run_feed.specs.Served.{jobs_in, ArePosted, CanServe, HaveServed}
use Rattle.sto_run_feed.specs.Orders.{places_in}
use Rattle.sto_run_feed.proofs.all.serve_all.Goals as goal

pub feed_and_serve-requires-clause-none : goal.feed_and_serve-requires-clause-none
feed_and_serve-requires-clause-none g c =
    let s = c.in_ok-queues.field-0 in let order : List TransactionPlace = places_in c.args.order.now in
    let lent : c.as_slice.result.now ≡ s.queues.items = search rules in
    let at = subst (λ (k : ℕ). AreUnsent k s.queues.items s.feeders.items order) (sym c.in_ok-queues.ensures.queues) c.in_ok-queues.ensures.feeders in
    let all = subst (λ (l : List JobQueue). AreUnsent (length l) l s.feeders.items order) (sym lent) at in
    λ κs within. all

pub feed_and_serve-requires-clause-able : goal.feed_and_serve-requires-clause-able
feed_and_serve-requires-clause-able g c =
    let s = c.in_ok-queues.field-0 in let count : ℕ = length c.args.rests.items in
    let N : QueueWorker g.row.T.Denot g.T.Naming → ℕ = λ w. w.number in
    let n = ap length c.in_ok-queues.ensures.numbers in let m = length-map s.servers.items N in
    let k = length_numbers 0 count in let some = c.requires.some in let len = s.servers.ok.0 in
    let lent : c.as_slice.result.now ≡ s.queues.items = search rules in
    let all : CanServe g.W.Work c.args.work.now c.args.shared.now c.as_slice.result.now s.servers = record {
      ready = c.requires.ready;
      some = omega (arith, n, m, k, len, some);
      posted = subst (λ (l : List JobQueue). ArePosted c.args.shared.now l (g.W.Work.plan c.args.work.now) s.servers.items) (sym lent) c.in_ok-queues.ensures.posted;
      apart = subst (λ (l : List ℕ). (number : ℕ) → times number l ≤ 1) (sym c.in_ok-queues.ensures.numbers) (λ n. numbers_once n 0 count);
    } in
    λ κs within. all

pub close_all-requires : goal.close_all-requires
close_all-requires g c =
    let s = c.in_ok-queues.field-0 in let order : List TransactionPlace = places_in c.args.order.now in
    let count : ℕ = length c.args.rests.items in let jobs : ℕ → List Job = λ n. jobs_for count n order in
    let lent : c.as_slice.result.now ≡ s.queues.items = search rules in
    let workers = c.in_ok-feeders.team.workers.items in
    let many = c.in_ok-queues.ensures.queues in
    let fed = subst (λ (k : ℕ). AreSent k s.queues.items c.in_ok-feeders.feeders.items order) many
    (subst (λ (l : List JobQueue). AreSent (length l) l c.in_ok-feeders.feeders.items order) lent c.in_ok-feeders.ensures.fed) in
    let taken = subst (λ (l : List JobQueue). HaveTaken l (numbers_from 0 count) (map jobs (numbers_from 0 count)) workers) lent
    (subst (λ (l : List (List Job)). HaveTaken c.as_slice.result.now (numbers_from 0 count) l workers) c.in_ok-queues.ensures.jobs
    (subst (λ (l : List ℕ). HaveTaken c.as_slice.result.now l (jobs_in s.servers.items) workers) c.in_ok-queues.ensures.numbers c.in_ok-feeders.ensures.team.served.taken)) in
    (jobs, fed, taken_all s.queues.items count jobs workers (sym many) taken)

pub returns-clause-worked : goal.returns-clause-worked
returns-clause-worked g c =
    let team = c.in_ok-feeders.ensures.team in record {
      made = team.served.made;
      gathered = c.in_ok-queues.ensures.gathered (draws_of (g.W.Work.plan c.args.work.now)) _ _ team.gathered;
      alone = team.served.alone;
    }

pub returns-clause-served : goal.returns-clause-served
returns-clause-served g c =
    subst (λ (l : List (List Job)). HaveServed (g.W.Work.plan c.args.work.now).tries l (told_in c.in_ok-feeders.team.records)) c.in_ok-queues.ensures.jobs c.in_ok-feeders.ensures.team.served.served
