use Rattle.std.specs.List.{All}
use Rattle.std.proofs.Common.{rules, ◌≡◌, ◌+◌, ℕ, List, [], ◌∷◌, ◌++◌, map, length, refl, sym, ap, ◌∙◌, subst, arith, append-nil}
use Rattle.std.proofs.lemmas.List.{map-append, length_push}
use Rattle.sto_core.specs.declared.view.View.{View}
use Rattle.sto_run_threads.specs.Orders.{TransactionPlace, numbers_from}
use Rattle.sto_run_feed.specs.declared.job.Job.{Job}
use Rattle.sto_run_feed.specs.declared.pass.JobQueue.{JobQueue}
use Rattle.sto_run_feed.specs.declared.pass.JobPass.{JobPass}
use Rattle.sto_run_feed.specs.Queues.{EndsWithLast, feeding, working}
use Rattle.sto_run_feed.specs.Passes.{IsPass, known}
use Rattle.sto_table.specs.declared.shared.Rest.{Rest}
use Rattle.sto_run_threads.specs.Accounts.{HasGathered}
use Rattle.sto_run_threads.specs.Teams.{IsReady, view_at}
use Rattle.sto_run_threads.proofs.Accounts.{gathered_moved}
use Rattle.sto_run_threads.proofs.Claiming.{snoc_last, snoc_length}
use Rattle.sto_run_feed.specs.declared.server.QueueWorker.{QueueWorker}
use Rattle.sto_run_feed.specs.Jobs.{jobs_for, all_jobs}
use Rattle.sto_run_feed.specs.Served.{IsPosted, jobs_in}
use Rattle.sto_run_feed.proofs.Going.{jobs_end}
use Rattle.sto_run_feed.proofs.Passes.{one_more_at}
use Rattle.sto_run_feed.proofs.Opened.{jobs_known, posted_last, posted_more, listed_more, numbered_more}
use Rattle.sto_run_feed.specs.QueuePasses.{AreUnsent}
use Rattle.sto_run_feed.specs.Orders.{places_in}
use Rattle.sto_run_feed.proofs.station.open_stations.Goals as goal

pub open_queue-requires : goal.open_queue-requires
open_queue-requires g c = record {
  last = subst EndsWithLast (sym c.in_ok-jobs.ensures) (jobs_end c.len-count.result c.len-number.result (places_in c.args.order.now));
}

pub loop-rest-preserved : goal.loop-rest-preserved
loop-rest-preserved g c =
    let plan = g.W.Work.plan c.args.work.now in
    let s = c.args.shared.now in let inv = c.loop-rest.invariant in
    let order : List TransactionPlace = places_in c.args.order.now in
    let count : ℕ = c.len-count.result in let number : ℕ = c.len-number.result in
    let last : number ≡ length c.loop-rest.queues.items = search rules in
    let o = c.in_ok-queue.field-0 in
    let rests : c.loop-rest.rests.items ≡ c.pop.new.self.items ++ c.in-Some.rest ∷ [] = search rules in
    let P : Rest g.row.T.Denot g.T.Naming → Type 0 = IsReady s plan in
    let r = snoc_last P c.pop.new.self.items c.in-Some.rest (subst (All P) rests inv.ready) in
    let w : QueueWorker g.row.T.Denot g.T.Naming = record { number = number; worker = o.worker; rest = c.in-Some.rest } in
    let queues : c.add.new.items.items ≡ c.loop-rest.queues.items ++ o.queue ∷ [] = c.in_ok-add.ensures in
    let feeders : c.add-in-Some.new.items.items ≡ c.loop-rest.feeders.items ++ o.feeder ∷ [] = c.in_ok-add-2.ensures in
    let servers : c.add-in-Some-2.new.items.items ≡ c.loop-rest.servers.items ++ w ∷ [] = c.in_ok-add-3.ensures in
    let jobs : c.in_ok-jobs.jobs.items ≡ jobs_for count number order = c.in_ok-jobs.ensures in
    let feeder : IsPass o.queue o.feeder (feeding (jobs_for count number order) 0) =
    subst (λ (l : List Job). IsPass o.queue o.feeder (feeding l 0)) jobs c.in_ok-queue.ensures.feeder in
    let worker : IsPass o.queue o.worker (working c.in_ok-jobs.jobs.items 0) = c.in_ok-queue.ensures.worker in
    let N : QueueWorker g.row.T.Denot g.T.Naming → ℕ = λ v. v.number in
    let J : QueueWorker g.row.T.Denot g.T.Naming → List Job = λ v. (known v.worker).jobs in
    let V : QueueWorker g.row.T.Denot g.T.Naming → View = λ v. view_at v.rest in
    let U : Rest g.row.T.Denot g.T.Naming → View = view_at in
    let more : length c.add.new.items.items ≡ number + 1 = (let n = ap length queues ∙ length_push c.loop-rest.queues.items o.queue in omega (arith, n, last)) in
    let all = inv.all in let a = ap length rests ∙ snoc_length c.pop.new.self.items c.in-Some.rest in
    let p = ap (map V) servers ∙ map-append V c.loop-rest.servers.items (w ∷ []) in
    let q = ap (map U) rests ∙ map-append U c.pop.new.self.items (c.in-Some.rest ∷ []) in
    record {
      count = inv.count;
      all = omega (arith, all, a, more);
      ready = r.0;
      feeders = subst (λ (l : List JobQueue). AreUnsent count l c.add-in-Some.new.items.items order) (sym queues)
          (subst (λ (l : List JobPass). AreUnsent count (c.loop-rest.queues.items ++ o.queue ∷ []) l order) (sym feeders)
          (one_more_at c.loop-rest.queues.items c.loop-rest.feeders.items o.queue o.feeder (λ n. feeding (jobs_for count n order) 0) inv.feeders (subst (λ (n : ℕ). IsPass o.queue o.feeder (feeding (jobs_for count n order) 0)) last feeder)));
      posted = subst (λ (l : List JobQueue). All (IsPosted s l count plan) c.add-in-Some-2.new.items.items) (sym queues)
          (subst (All (IsPosted s (c.loop-rest.queues.items ++ o.queue ∷ []) count plan)) (sym servers)
          (posted_more s c.loop-rest.queues.items o.queue count plan c.loop-rest.servers.items w inv.posted
          (posted_last s c.loop-rest.queues.items o.queue count plan order c.in_ok-jobs.jobs.items w c.requires.order jobs last worker r.1)));
      numbers = ap (map N) servers ∙ numbered_more N c.loop-rest.servers.items w number (length c.add.new.items.items) (inv.numbers ∙ ap (numbers_from 0) (sym last)) refl more;
      jobs = ap (map J) servers
          ∙ listed_more J (λ n. jobs_for count n order) c.loop-rest.servers.items w number (length c.add.new.items.items) (inv.jobs ∙ ap (λ (k : ℕ). map (λ n. jobs_for count n order) (numbers_from 0 k)) (sym last)) (jobs_known o.queue o.worker c.in_ok-jobs.jobs.items worker ∙ jobs) more;
      gathered = λ need u rs h. inv.gathered need u rs
          (subst (λ (l : List View). HasGathered need (map V c.loop-rest.servers.items ++ l) u rs) (sym q)
          (gathered_moved need (map V c.loop-rest.servers.items) (map U c.pop.new.self.items) (view_at c.in-Some.rest) u rs
          (subst (λ (l : List View). HasGathered need (l ++ map U c.pop.new.self.items) u rs) p h)));
    }

pub returns : goal.returns
returns g c =
    let plan = g.W.Work.plan c.args.work.now in let inv = c.loop-rest.invariant in
    let none = ap length c.in_default.ensures.0 in let all = inv.all in
    let same : c.len-count.result ≡ length c.loop-rest.queues.items = omega (arith, none, all) in
    let V : QueueWorker g.row.T.Denot g.T.Naming → View = λ v. view_at v.rest in
    let U : Rest g.row.T.Denot g.T.Naming → View = view_at in
    let left : map U c.loop-rest.rests.items ≡ [] = ap (map U) c.in_default.ensures.0 in
    record {
      queues = search rules;
      feeders = subst (λ (k : ℕ). AreUnsent k c.loop-rest.queues.items c.loop-rest.feeders.items (places_in c.args.order.now)) inv.count inv.feeders;
      posted = subst (λ (k : ℕ). All (IsPosted c.args.shared.now c.loop-rest.queues.items k plan) c.loop-rest.servers.items) same inv.posted;
      numbers = search rules;
      jobs = subst (λ (k : ℕ). jobs_in c.loop-rest.servers.items ≡ all_jobs k (places_in c.args.order.now)) inv.count
          (inv.jobs ∙ ap (λ (k : ℕ). map (λ n. jobs_for c.len-count.result n (places_in c.args.order.now)) (numbers_from 0 k)) (sym same));
      gathered = λ need w rs h. inv.gathered need w rs
          (subst (λ (l : List View). HasGathered need (map V c.loop-rest.servers.items ++ l) w rs) (sym left)
          (subst (λ (l : List View). HasGathered need l w rs) (sym (append-nil (map V c.loop-rest.servers.items))) h));
    }
