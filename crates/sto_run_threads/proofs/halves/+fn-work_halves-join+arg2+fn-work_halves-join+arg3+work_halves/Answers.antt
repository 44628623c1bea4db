use Rattle.std.proofs.Common.{rules, ◌+◌, ℕ, ◌/◌, sum_by, ap, ap₂, ◌∙◌}
use Rattle.std.proofs.lemmas.Result.{IfOk-weaker}
use Rattle.std.proofs.lemmas.List.Sums.{sum_by-take-drop}
use Rattle.sto_run_threads.specs.declared.worker.ScriptWorker.{ScriptWorker}
use Rattle.sto_run_threads.proofs.Accounts.{halves_gathered}
use Rattle.sto_run_threads.specs.Plans.{draws_of}
use Rattle.sto_run_threads.specs.Teams.{view_at, IsTeamOf}
use Rattle.sto_run_threads.proofs.halves.+fn-work_halves-join+arg2+fn-work_halves-join+arg3+work_halves.Goals as goal

pub returns : goal.returns
returns g t c =
    let plan = g.W.Work.plan c.args.work.now in
    let a : IsTeamOf c.args.shared.now c.args.claims.now plan c.split_off.new.self.items c.in_ok-first.first = search rules in
    let b : IsTeamOf c.args.shared.now c.args.claims.now plan c.in-Ok.others.items c.in_ok-other.other = search rules in
    let first = c.in-Ok.ensures.items in let others = c.in-Ok.ensures.tail in
    let G : ScriptWorker g.row.T.Denot g.T.Naming → ℕ = λ w. w.claimer.seat.me.0.seats in
    record {
      team = IfOk-weaker c.gather.result _ _
          (λ r both. record {
            finished = both.finished;
            gathered = halves_gathered (draws_of plan) (λ (w : ScriptWorker g.row.T.Denot g.T.Naming). view_at w.rest) c.args.workers.items (c.len-half.result / 2)
                c.split_off.new.self.items c.in-Ok.others.items _ _ _ _ _ _ first others both.view both.records a.gathered b.gathered;
            seats = both.seats ∙ ap₂ ◌+◌ (a.seats ∙ ap (sum_by G) first) (b.seats ∙ ap (sum_by G) others) ∙ sum_by-take-drop G c.args.workers.items (c.len-half.result / 2);
            in_turn = λ one. absurd (search rules);
          }) c.gather.ensures.both;
    }
