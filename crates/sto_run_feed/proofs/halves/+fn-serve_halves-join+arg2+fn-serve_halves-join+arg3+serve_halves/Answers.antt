use Rattle.std.proofs.Common.{rules, ℕ, ◌/◌}
use Rattle.std.proofs.lemmas.Result.{IfOk-weaker}
use Rattle.sto_run_threads.proofs.Accounts.{halves_gathered}
use Rattle.sto_run_feed.specs.declared.server.QueueWorker.{QueueWorker}
use Rattle.sto_run_feed.proofs.Gathered.{halves_served}
use Rattle.sto_run_threads.specs.Plans.{draws_of}
use Rattle.sto_run_threads.specs.Teams.{view_at}
use Rattle.sto_run_feed.specs.Served.{IsTeamOf}
use Rattle.sto_run_feed.proofs.halves.+fn-serve_halves-join+arg2+fn-serve_halves-join+arg3+serve_halves.Goals as goal

pub returns : goal.returns
returns g t c =
    let plan = g.W.Work.plan c.args.work.now in let half : ℕ = c.len-half.result / 2 in
    let a : IsTeamOf c.args.shared.now c.args.queues.now plan c.split.new.servers.items c.in_ok-first.first = search rules in
    let b : IsTeamOf c.args.shared.now c.args.queues.now plan c.in_ok-others.others.items c.in_ok-other.other = search rules in
    let first = c.in_ok-others.ensures.items in let others = c.in_ok-others.ensures.tail in
    record {
      team = IfOk-weaker c.gather.result _ _
          (λ r both. record {
            served = halves_served c.args.shared.now c.args.queues.now plan c.args.servers.items half c.split.new.servers.items c.in_ok-others.others.items
                c.in_ok-first.first c.in_ok-other.other r first others c.requires.able.apart a.served b.served both;
            gathered = halves_gathered (draws_of plan) (λ (w : QueueWorker g.row.T.Denot g.T.Naming). view_at w.rest) c.args.servers.items half
                c.split.new.servers.items c.in_ok-others.others.items _ _ _ _ _ _ first others both.view both.records a.gathered b.gathered;
          }) c.gather.ensures.both;
    }
