use Rattle.std.proofs.Common.{◌≡◌, Option, IfSome, refl, subst}
use Rattle.sto_run.specs.Forms.{form_for}
use Rattle.sto_run_orders.specs.declared.runs.LedRun.{LedRun}
use Rattle.sto_run_orders.specs.Ready.{objects_of, file_of, tries_of, LeadsThere}
use Rattle.sto_run_orders.proofs.Reporting.{report_of_journal, step_report, told_same, state_is}
use Rattle.sto_run_orders.proofs.runs.OrderRuns.report_of.Goals as goal

pub report-requires-clause-lawful : goal.report-requires-clause-lawful
report-requires-clause-lawful c =
    let led : LeadsThere c.args.self.now c.args.outcome c.in-Some.led =
    subst (λ (o : Option LedRun). IfSome o (LeadsThere c.args.self.now c.args.outcome)) c.in-Some.is c.in_ok-led.ensures in
    (tries_of c.args.self.now, led.run.lawful)

pub returns : goal.returns
returns c =
    let r = c.args.self.now in
    let led : LeadsThere r c.args.outcome c.in-Some.led = subst (λ (o : Option LedRun). IfSome o (LeadsThere r c.args.outcome)) c.in-Some.is c.in_ok-led.ensures in
    let journal = c.in-Some.led.journal in
    let text = c.in_ok-text.text.items in
    let told = report_of_journal (form_for r.json) (file_of r) (tries_of r) journal text (c.in_ok-text.ensures.lawful (tries_of r) led.run.lawful) c.in_ok-text.ensures.order c.in_ok-text.ensures.aborts in
    record {
      report = step_report (form_for r.json) (objects_of r) (file_of r) (tries_of r) c.in-Some.led.schedule.items journal text c.requires.ready.kinds led.run.run led.run.alone told;
      same = told_same r.by (form_for r.json) (file_of r) (tries_of r) journal text c.args.outcome told led.same;
      state = state_is (form_for r.json) (file_of r) (tries_of r) journal text told led.run.lawful.final;
      orders = refl;
    }
