use Rattle.std.proofs.Common.{◌≤◌, List, ℕ, max, subst, sym}
use Rattle.std.proofs.lemmas.Result.{err_from_is_err_and}
use Rattle.sto_lang.specs.Views.{file as view}
use Rattle.sto_explore.specs.Explored.{AreExplored, AreTooMany, start_of}
use Rattle.sto_run.specs.Traced.{of_objects}
use Rattle.sto_run_schedules.specs.Telling.{tells_of}
use Rattle.sto_run.specs.Forms.{form_for}
use Rattle.sto_run_schedules.specs.Leading.{LeadsTo}
use Rattle.sto_run_schedules.proofs.explored.explore_opened.Goals as goal

pub explore-requires-clause-ready : goal.explore-requires-clause-ready
explore-requires-clause-ready g c = record { runnable = c.requires.runnable; kinds = c.requires.kinds; threads = c.in-Ok.ensures }

pub returns-in-Ok-outcomes-clause-outcomes : goal.returns-in-Ok-outcomes-clause-outcomes
returns-in-Ok-outcomes-clause-outcomes g c =
    let work = c.args.run.now.work in
    let file = view work.workload.file.now in
    let e = c.in_ok-explore.ensures.explored in
    record {
      objects = work.ty.now;
      kinds = c.requires.kinds;
      runs = e.0;
      explored = subst (λ (ts : List ℕ). AreExplored (start_of c.args.switches ts) (tells_of of_objects work.ty.now file work.tries) (LeadsTo (form_for c.args.json) work.ty.now file work.tries) e.0) c.in-Ok.ensures e.2;
      outcomes_of_them = c.in-Ok-outcomes.ensures e.0 e.1;
    }

pub returns-in-Ok-outcomes-clause-few : goal.returns-in-Ok-outcomes-clause-few
returns-in-Ok-outcomes-clause-few g c =
    let e = c.in_ok-explore.ensures.explored in
    subst (λ (n : ℕ). n ≤ max 1 c.args.limit) (sym (c.in-Ok-outcomes.ensures e.0 e.1).schedules) e.3

pub returns-in_err-explore-clause-too_many : goal.returns-in_err-explore-clause-too_many
returns-in_err-explore-clause-too_many g c =
    let p = err_from_is_err_and c.from_residual.result c.from_residual.ensures.1 in
    let work = c.args.run.now.work in
    let file = view work.workload.file.now in
    rw (p.1, p.2)
    (λ is.
    let e = c.in_err-explore.ensures.too_many is in
    record {
      objects = work.ty.now;
      kinds = c.requires.kinds;
      runs = e.0;
      too_many = subst (λ (ts : List ℕ). AreTooMany (start_of c.args.switches ts) (tells_of of_objects work.ty.now file work.tries) (LeadsTo (form_for c.args.json) work.ty.now file work.tries) c.args.limit e.0) c.in-Ok.ensures e.2;
    })
