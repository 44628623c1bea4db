use Rattle.std.proofs.Common.{◌≡◌, ◌+◌, ◌-◌, ◌*◌, ℕ, List, [], ◌∷◌, ◌++◌, length, map, true, refl, sym, ap, ◌∙◌, subst, arith}
use Rattle.std.proofs.lemmas.Option.{slice_get_within}
use Rattle.atomic_table.specs.declared.shared.Seat.{Seat}
use Rattle.sto_run_feed.specs.declared.job.Job.TheVariants.{Run, Last}
use Rattle.sto_run_feed.specs.declared.pass.JobPass.{JobPass}
use Rattle.sto_run_feed.specs.Queues.{working}
use Rattle.sto_run_feed.specs.Passes.{known}
use Rattle.sto_core.specs.declared.view.View.{View}
use Rattle.sto_table.specs.declared.stance.Stance.{Stance}
use Rattle.sto_table.specs.Rests.{IsOf}
use Rattle.sto_run_threads.specs.Records.{Record}
use Rattle.sto_transaction.specs.Plain.{plain}
use Rattle.sto_run_threads.specs.Accounts.{AddsUp, HasGathered}
use Rattle.sto_run_threads.specs.Counts.{scripts_from}
use Rattle.sto_run_threads.specs.Worked.{AbortsNone}
use Rattle.sto_run_threads.proofs.Accounts.{adds_up_none, adds_up_through, one_gathered}
use Rattle.sto_run_threads.proofs.Claiming.{times_le}
use Rattle.sto_run_threads.proofs.Gathered.{made_at}
use Rattle.sto_run_threads.proofs.Joined.{none_worked}
use Rattle.sto_run_threads.proofs.Scripts.{aborts_none_through}
use Rattle.sto_run_feed.specs.Jobs.{places_of}
use Rattle.sto_run_feed.specs.QueuePasses.{IsAt, HaveTaken, all_taken}
use Rattle.sto_run_feed.proofs.Passes.{none_taken}
use Rattle.sto_run_feed.proofs.TakingJobs.{may_take, takes_next}
use Rattle.sto_run_feed.proofs.Serving.{run_at, last_at, next_place, place_there, few_jobs, comes_next, serving_none, serving_more, serving_ends, served_one, from_one, IsServing}
use Rattle.sto_run_threads.specs.Plans.{Rests, draws_of, IsPaced}
use Rattle.sto_run_threads.specs.Told.{told_in}
use Rattle.sto_run_threads.specs.Teams.{view_at}
use Rattle.sto_run_feed.proofs.server.serve.Goals as goal

pub next_job-requires : goal.next_job-requires
next_job-requires g c =
    let inv = c.loop-thread.invariant in
    let number = c.args.server.number in
    let jobs = (known c.args.server.worker).jobs in let taken : ℕ = (known c.loop-thread.worker).taken in
    record { of = may_take c.args.queues.now number c.index-queues-number.result c.loop-thread.worker jobs taken inv.at c.index-queues-number.is }

pub serve_one-requires-clause-there : goal.serve_one-requires-clause-there
serve_one-requires-clause-there g c =
    let file = (g.W.Work.plan c.args.work.now).file in
    let own = c.requires.posted.own in let inv = c.loop-thread.invariant in
    let count : ℕ = length c.args.queues.now in let number = c.args.server.number in
    let jobs = (known c.args.server.worker).jobs in let taken : ℕ = (known c.loop-thread.worker).taken in
    let took = takes_next c.args.queues.now number c.index-queues-number.result c.loop-thread.worker c.next_job.new.worker jobs (Run c.in-Run.thread c.in-Run.position)
    inv.at c.index-queues-number.is c.in-Run.ensures.next c.in-Run.ensures.taken in
    let at = run_at jobs own.last taken c.in-Run.thread c.in-Run.position took.next in
    let next = next_place file count number jobs own taken (c.in-Run.thread, c.in-Run.position) at in
    place_there file count number _ c.in-Run.thread c.in-Run.position next

pub serve_one-requires-clause-next : goal.serve_one-requires-clause-next
serve_one-requires-clause-next g c =
    let plan = g.W.Work.plan c.args.work.now in
    let own = c.requires.posted.own in let inv = c.loop-thread.invariant in
    let count : ℕ = length c.args.queues.now in let number = c.args.server.number in
    let jobs = (known c.args.server.worker).jobs in let taken : ℕ = (known c.loop-thread.worker).taken in
    let rs = told_in c.loop-thread.records in
    let took = takes_next c.args.queues.now number c.index-queues-number.result c.loop-thread.worker c.next_job.new.worker jobs (Run c.in-Run.thread c.in-Run.position)
    inv.at c.index-queues-number.is c.in-Run.ensures.next c.in-Run.ensures.taken in
    let at = run_at jobs own.last taken c.in-Run.thread c.in-Run.position took.next in
    let next = next_place plan.file count number jobs own taken (c.in-Run.thread, c.in-Run.position) at in
    comes_next plan count number (places_of jobs) taken c.in-Run.thread c.in-Run.position rs c.loop-thread.runs inv.serving next

pub serve_one-requires-clause-free : goal.serve_one-requires-clause-free
serve_one-requires-clause-free g c =
    let plan = g.W.Work.plan c.args.work.now in
    let own = c.requires.posted.own in let inv = c.loop-thread.invariant in
    let count : ℕ = length c.args.queues.now in let number = c.args.server.number in
    let jobs = (known c.args.server.worker).jobs in let taken : ℕ = (known c.loop-thread.worker).taken in
    let took = takes_next c.args.queues.now number c.index-queues-number.result c.loop-thread.worker c.next_job.new.worker jobs (Run c.in-Run.thread c.in-Run.position)
    inv.at c.index-queues-number.is c.in-Run.ensures.next c.in-Run.ensures.taken in
    let at = run_at jobs own.last taken c.in-Run.thread c.in-Run.position took.next in
    let few = few_jobs plan.file count number jobs own in let low = slice_get_within (places_of jobs) taken (c.in-Run.thread, c.in-Run.position) at in
    let t = times_le plan.tries taken (scripts_from plan.file.threads 0) 1 (omega (arith, few, low)) in
    let first = c.requires.posted.ready.free.draws in let d = inv.draws in let one : plan.tries * 1 ≡ plan.tries = omega arith in
    record { rests = inv.rests; draws = omega (arith, t, first, d, one) }

pub loop-thread-smaller : goal.loop-thread-smaller
loop-thread-smaller g c =
    let inv = c.loop-thread.invariant in
    let number = c.args.server.number in
    let jobs = (known c.args.server.worker).jobs in let taken : ℕ = (known c.loop-thread.worker).taken in
    let took = takes_next c.args.queues.now number c.index-queues-number.result c.loop-thread.worker c.next_job.new.worker jobs (Run c.in-Run.thread c.in-Run.position)
    inv.at c.index-queues-number.is c.in-Run.ensures.next c.in-Run.ensures.taken in
    let low = slice_get_within jobs taken (Run c.in-Run.thread c.in-Run.position) took.next in let one = took.one in
    omega (arith, low, one)

pub loop-thread-init : goal.loop-thread-init
loop-thread-init g c =
    let plan = g.W.Work.plan c.args.work.now in
    let ready = c.requires.posted.ready in let seat = c.pass-pass.ensures.seat in
    let count : ℕ = length c.args.queues.now in let number = c.args.server.number in
    let places = places_of (known c.args.server.worker).jobs in
    let v : View = view_at c.args.server.rest in let w : View = c.pass-pass.result.seat.me.0.view in
    let view : w ≡ v = ap (λ (s : Seat (Unit {0}) Stance). s.me.0.view) seat in
    let none : told_in c.new-records.result ≡ [] = ap (map plain) c.new-records.ensures.items in
    let first = none_taken c.args.queues.now number c.args.server.worker (known c.args.server.worker).jobs c.requires.posted.at in
    let zero = first.0 in
    record {
      of = subst (IsOf c.args.shared.now) (sym seat) ready.of;
      passes = c.pass-pass.ensures.passes;
      gathered = ap (λ (u : View). u.gathered) view;
      at = first.1;
      within = omega (arith, zero);
      rests = subst (Rests plan) (sym view) ready.free.rests;
      draws = (let d = ap (λ (u : View). u.draws) view in omega (arith, d));
      worked = none_worked plan w (told_in c.new-records.result) none (subst (IsPaced plan) (sym view) ready.paced);
      adds_up = subst (AddsUp v w []) (sym none) (subst (λ (u : View). AddsUp v u [] []) (sym view) (adds_up_none v []));
      alone = λ one. subst (AbortsNone []) (sym none) (λ place. refl);
      serving = subst (λ (n : ℕ). IsServing plan.tries count number places n (told_in c.new-records.result) true) (sym zero)
          (subst (λ (l : List Record). IsServing plan.tries count number places 0 l true) (sym none) (serving_none plan.tries count number places));
    }

pub loop-thread-preserved : goal.loop-thread-preserved
loop-thread-preserved g c =
    let plan = g.W.Work.plan c.args.work.now in
    let own = c.requires.posted.own in let inv = c.loop-thread.invariant in
    let count : ℕ = length c.args.queues.now in let number = c.args.server.number in
    let jobs = (known c.args.server.worker).jobs in let taken : ℕ = (known c.loop-thread.worker).taken in
    let rs = told_in c.loop-thread.records in
    let took = takes_next c.args.queues.now number c.index-queues-number.result c.loop-thread.worker c.next_job.new.worker jobs (Run c.in-Run.thread c.in-Run.position)
    inv.at c.index-queues-number.is c.in-Run.ensures.next c.in-Run.ensures.taken in
    let at = run_at jobs own.last taken c.in-Run.thread c.in-Run.position took.next in
    let next = next_place plan.file count number jobs own taken (c.in-Run.thread, c.in-Run.position) at in
    let ran = c.in_ok-runs.ensures.ran in let leads = c.in_ok-runs.ensures.leads in let same = c.serve_one.ensures.same in
    let later = told_in c.serve_one.new.records in
    let w = c.serve_one.new.cells.seat.me.0.view in
    let one = took.one in
    let low = slice_get_within (places_of jobs) taken (c.in-Run.thread, c.in-Run.position) at in
    record {
      of = (same.1 ∙ inv.of.0, same.2 ∙ inv.of.1, (let n = same.3 in let k = inv.of.2 in omega (arith, n, k)));
      passes = same.0 ∙ inv.passes;
      gathered = same.5 ∙ inv.gathered;
      at = took.at;
      within = omega (arith, low, one);
      rests = leads.rests;
      draws =
          (let d = inv.draws in let e = leads.draws in
          let t : plan.tries * (known c.next_job.new.worker).taken ≡ plan.tries * taken + plan.tries = ap (λ (n : ℕ). plan.tries * n) one ∙ omega arith in omega (arith, d, e, t));
      worked = ran.worked;
      adds_up = adds_up_through (view_at c.args.server.rest) c.loop-thread.pass.seat.me.0.view w [] rs later inv.adds_up leads.adds_up;
      alone = λ alone. aborts_none_through [] rs later (inv.alone alone) (ran.alone (inv.passes ∙ alone));
      serving = subst (λ (n : ℕ). IsServing plan.tries count number (places_of jobs) n later c.in_ok-runs.runs) (sym one)
          (serving_more plan c.loop-thread.pass.shared.now.table.shared.key.passes count number w (places_of jobs) taken (c.in-Run.thread, c.in-Run.position) rs later c.loop-thread.runs c.in_ok-runs.runs at next.own inv.serving ran);
    }

pub returns : goal.returns
returns g c =
    let plan = g.W.Work.plan c.args.work.now in
    let own = c.requires.posted.own in let inv = c.loop-thread.invariant in
    let count : ℕ = length c.args.queues.now in let number = c.args.server.number in
    let jobs = (known c.args.server.worker).jobs in let taken : ℕ = (known c.loop-thread.worker).taken in
    let rs = told_in c.loop-thread.records in let v = view_at c.args.server.rest in
    let took = takes_next c.args.queues.now number c.index-queues-number.result c.loop-thread.worker c.next_job.new.worker jobs Last
    inv.at c.index-queues-number.is c.in_default.ensures.next c.in_default.ensures.taken in
    let ends = last_at jobs own.last taken took.next in
    let all : IsAt c.args.queues.now number c.next_job.new.worker (all_taken jobs) =
    subst (λ (n : ℕ). IsAt c.args.queues.now number c.next_job.new.worker (working jobs n)) (took.one ∙ sym ends.1) took.at in
    let one : c.push.new.self.items ≡ c.next_job.new.worker ∷ [] = c.in-Ok.ensures.items ∙ ap (λ (l : List JobPass). l ++ c.next_job.new.worker ∷ []) c.new-workers.ensures.items in
    let few = few_jobs plan.file count number jobs own in let within = inv.within in
    let t = times_le plan.tries taken (scripts_from plan.file.threads 0) 0 (omega (arith, few, within)) in
    record {
      team = record {
        served = record {
          made = made_at c.args.shared.now plan c.rest.result c.loop-thread.pass.seat rs c.rest.ensures inv.of inv.rests inv.worked;
          own = from_one plan.tries count number (places_of jobs) taken rs c.loop-thread.runs inv.serving;
          alone = inv.alone;
          taken = subst (λ (l : List JobPass). HaveTaken c.args.queues.now (number ∷ []) (jobs ∷ []) l) (sym one) (all, tt);
          served = served_one plan.tries jobs rs (serving_ends plan.tries count number jobs taken rs c.loop-thread.runs ends.0 inv.serving);
        };
        gathered = subst (λ (s : Seat (Unit {0}) Stance). HasGathered (draws_of plan) (v ∷ []) s.me.0.view rs) (sym c.rest.ensures)
            (one_gathered (draws_of plan) v c.loop-thread.pass.seat.me.0.view rs inv.adds_up inv.gathered (let d = inv.draws in omega (arith, d, t)));
      };
    }
