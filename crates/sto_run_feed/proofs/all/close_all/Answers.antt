use Rattle.std.proofs.Common.{rules, ◌≡◌, ℕ, List, [], ◌∷◌, ◌++◌, length, sym, subst}
use Rattle.sto_run_feed.specs.declared.known.Known.{Known}
use Rattle.sto_run_feed.specs.declared.pass.JobQueue.{JobQueue}
use Rattle.sto_run_feed.specs.declared.pass.JobPass.{JobPass}
use Rattle.sto_run_feed.specs.Queues.{feeding, working}
use Rattle.sto_run_feed.specs.Passes.{IsPass}
use Rattle.sto_run_feed.specs.QueuePasses.{AreAt, all_sent, all_taken}
use Rattle.sto_run_feed.proofs.Passes.{last_pass}
use Rattle.sto_run_feed.proofs.all.close_all.Goals as goal

pub close-requires-clause-feeder : goal.close-requires-clause-feeder
close-requires-clause-feeder c =
    let jobs = c.loop-queue.invariant.closes.0 in
    let queues : c.loop-queue.queues.items ≡ c.pop.new.self.items ++ c.in-Some.queue ∷ [] = search rules in
    let feeders : c.loop-queue.feeders.items ≡ c.pop-in-Some.new.self.items ++ c.in-Some-Some.feeder ∷ [] = search rules in
    let workers : c.loop-queue.workers.items ≡ c.pop-in-Some-2.new.self.items ++ c.in-Some-Some.worker ∷ [] = search rules in
    let sent = last_pass c.pop.new.self.items c.pop-in-Some.new.self.items c.in-Some.queue c.in-Some-Some.feeder (λ n. all_sent (jobs n))
    (subst (λ (l : List JobQueue). AreAt l (c.pop-in-Some.new.self.items ++ c.in-Some-Some.feeder ∷ []) (λ n. all_sent (jobs n))) queues
    (subst (λ (l : List JobPass). AreAt c.loop-queue.queues.items l (λ n. all_sent (jobs n))) feeders c.loop-queue.invariant.closes.1)) in
    let taken = last_pass c.pop.new.self.items c.pop-in-Some-2.new.self.items c.in-Some.queue c.in-Some-Some.worker (λ n. all_taken (jobs n))
    (subst (λ (l : List JobQueue). AreAt l (c.pop-in-Some-2.new.self.items ++ c.in-Some-Some.worker ∷ []) (λ n. all_taken (jobs n))) queues
    (subst (λ (l : List JobPass). AreAt c.loop-queue.queues.items l (λ n. all_taken (jobs n))) workers c.loop-queue.invariant.closes.2)) in
    subst (λ (v : Known). IsPass c.in-Some.queue c.in-Some-Some.feeder (feeding v.jobs (length v.jobs))) (sym sent.0.known) sent.0

pub close-requires-clause-worker : goal.close-requires-clause-worker
close-requires-clause-worker c =
    let jobs = c.loop-queue.invariant.closes.0 in
    let queues : c.loop-queue.queues.items ≡ c.pop.new.self.items ++ c.in-Some.queue ∷ [] = search rules in
    let feeders : c.loop-queue.feeders.items ≡ c.pop-in-Some.new.self.items ++ c.in-Some-Some.feeder ∷ [] = search rules in
    let workers : c.loop-queue.workers.items ≡ c.pop-in-Some-2.new.self.items ++ c.in-Some-Some.worker ∷ [] = search rules in
    let sent = last_pass c.pop.new.self.items c.pop-in-Some.new.self.items c.in-Some.queue c.in-Some-Some.feeder (λ n. all_sent (jobs n))
    (subst (λ (l : List JobQueue). AreAt l (c.pop-in-Some.new.self.items ++ c.in-Some-Some.feeder ∷ []) (λ n. all_sent (jobs n))) queues
    (subst (λ (l : List JobPass). AreAt c.loop-queue.queues.items l (λ n. all_sent (jobs n))) feeders c.loop-queue.invariant.closes.1)) in
    let taken = last_pass c.pop.new.self.items c.pop-in-Some-2.new.self.items c.in-Some.queue c.in-Some-Some.worker (λ n. all_taken (jobs n))
    (subst (λ (l : List JobQueue). AreAt l (c.pop-in-Some-2.new.self.items ++ c.in-Some-Some.worker ∷ []) (λ n. all_taken (jobs n))) queues
    (subst (λ (l : List JobPass). AreAt c.loop-queue.queues.items l (λ n. all_taken (jobs n))) workers c.loop-queue.invariant.closes.2)) in
    subst (λ (v : Known). IsPass c.in-Some.queue c.in-Some-Some.worker (working v.jobs (length v.jobs))) (sym sent.0.known) taken.0

pub loop-queue-preserved : goal.loop-queue-preserved
loop-queue-preserved c =
    let jobs = c.loop-queue.invariant.closes.0 in
    let queues : c.loop-queue.queues.items ≡ c.pop.new.self.items ++ c.in-Some.queue ∷ [] = search rules in
    let feeders : c.loop-queue.feeders.items ≡ c.pop-in-Some.new.self.items ++ c.in-Some-Some.feeder ∷ [] = search rules in
    let workers : c.loop-queue.workers.items ≡ c.pop-in-Some-2.new.self.items ++ c.in-Some-Some.worker ∷ [] = search rules in
    let sent = last_pass c.pop.new.self.items c.pop-in-Some.new.self.items c.in-Some.queue c.in-Some-Some.feeder (λ n. all_sent (jobs n))
    (subst (λ (l : List JobQueue). AreAt l (c.pop-in-Some.new.self.items ++ c.in-Some-Some.feeder ∷ []) (λ n. all_sent (jobs n))) queues
    (subst (λ (l : List JobPass). AreAt c.loop-queue.queues.items l (λ n. all_sent (jobs n))) feeders c.loop-queue.invariant.closes.1)) in
    let taken = last_pass c.pop.new.self.items c.pop-in-Some-2.new.self.items c.in-Some.queue c.in-Some-Some.worker (λ n. all_taken (jobs n))
    (subst (λ (l : List JobQueue). AreAt l (c.pop-in-Some-2.new.self.items ++ c.in-Some-Some.worker ∷ []) (λ n. all_taken (jobs n))) queues
    (subst (λ (l : List JobPass). AreAt c.loop-queue.queues.items l (λ n. all_taken (jobs n))) workers c.loop-queue.invariant.closes.2)) in
    record { closes = (jobs, sent.1, taken.1) }
