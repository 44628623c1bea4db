use Rattle.std.proofs.Common.{None, refl, ap, ◌∙◌}
use Rattle.sto_lang.specs.Views.{file as view}
use Rattle.sto_run_orders.specs.Texts.{reports_in}
use Rattle.sto_cli.proofs.explored.all_told.Goals as goal

pub returns-in_ok-reports_text-in-Ok-clause-told : goal.returns-in_ok-reports_text-in-Ok-clause-told
returns-in_ok-reports_text-in-Ok-clause-told c = record {
  allowed = c.in-Ok.ensures.allowed;
  reports = c.in-Ok.reports.items;
  of_file = c.in-Ok.ensures.reports;
  complete = c.in-Ok.ensures.complete;
  told = (refl, c.in_ok-reports_text-in-Ok.ensures ∙ ap (reports_in c.args.json (view c.args.file.now)) c.as_slice.ensures.value);
}

pub returns-in-Err-clause-fault : goal.returns-in-Err-clause-fault
returns-in-Err-clause-fault c = c.refusal.ensures c.args.by None (view c.args.file.now) c.in-Err.ensures.cause
