use Rattle.std.proofs.lemmas.Result.{err_from_is_err_and}
use Rattle.sto_lang.specs.Views.{file as view}
use Rattle.sto_run.specs.Meanings.{updating_by}
use Rattle.sto_run.specs.Stores.{means}
use Rattle.sto_run.specs.Forms.{form_for}
use Rattle.sto_run_orders.proofs.Listing.{all_among, all_by, all_states, all_apart}
use Rattle.sto_run_orders.proofs.explored.explore_orders.Goals as goal

pub returns-clause-reports : goal.returns-clause-reports
returns-clause-reports c = record {
  found = c.in_ok-outcomes.outcomes.items;
  outcomes = c.in_ok-outcomes.ensures.outcomes;
  told = c.in_ok-reports.reports.items;
  each = c.in_ok-reports.ensures;
  same = c.sort.ensures.same;
  in_order = c.in_ok-sort.ensures.order;
}

pub returns-clause-each : goal.returns-clause-each
returns-clause-each c = all_by c.args.by (form_for c.args.json) (view c.args.file.now) 64 c.sort.new.reports.items (returns-clause-reports c)

pub returns-clause-states : goal.returns-clause-states
returns-clause-states c = all_states c.args.by (form_for c.args.json) (view c.args.file.now) 64 c.sort.new.reports.items (returns-clause-reports c)

pub returns-clause-distinct : goal.returns-clause-distinct
returns-clause-distinct c = all_apart c.args.by (form_for c.args.json) (view c.args.file.now) 64 c.sort.new.reports.items (returns-clause-reports c)

pub returns-clause-complete : goal.returns-clause-complete
returns-clause-complete c = λ tries text lawful.
    all_among c.args.by (form_for c.args.json) (view c.args.file.now) 64 (updating_by means) tries c.sort.new.reports.items text (returns-clause-reports c) lawful

pub returns-in_err-outcomes-clause-cause : goal.returns-in_err-outcomes-clause-cause
returns-in_err-outcomes-clause-cause c =
    let p = err_from_is_err_and c.from_residual.result c.from_residual.ensures.1 in
    rw (p.1, p.2) c.in_err-outcomes.ensures.cause
