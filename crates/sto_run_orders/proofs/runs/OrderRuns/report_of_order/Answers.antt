use Rattle.std.proofs.Common.{◌≡◌, map, refl, ap, ◌∙◌}
use Rattle.sto_part.specs.Listed.{Listed}
use Rattle.sto_journal.specs.declared.journal.AbortLine.{AbortLine}
use Rattle.sto_journal.specs.declared.journal.Journal.{Journal}
use Rattle.sto_journal.specs.Journals.{abort}
use Rattle.sto_run.specs.Meanings.{updating_by}
use Rattle.sto_run.specs.Stores.{means}
use Rattle.sto_run.specs.Forms.{form_for}
use Rattle.sto_run_orders.specs.Ready.{file_of, tries_of}
use Rattle.sto_run_orders.proofs.Reporting.{order_lawful, report_of_journal, told_same, state_is}
use Rattle.sto_run_orders.proofs.runs.OrderRuns.report_of_order.Goals as goal

pub report-requires-clause-lawful : goal.report-requires-clause-lawful
report-requires-clause-lawful c =
    let r = c.args.self.now in
    let journal : Journal = record { lines = c.args.outcome.lines; aborts = c.new.result; state = c.args.outcome.state } in
    (tries_of r, order_lawful (updating_by means) (file_of r) (tries_of r) journal c.requires.outcome (ap (λ (l : Listed AbortLine). l.items) c.new.ensures))

pub returns : goal.returns
returns c =
    let r = c.args.self.now in
    let journal : Journal = record { lines = c.args.outcome.lines; aborts = c.new.result; state = c.args.outcome.state } in
    let lawful = c.in_ok-text.ensures.lawful (tries_of r) (order_lawful (updating_by means) (file_of r) (tries_of r) journal c.requires.outcome (ap (λ (l : Listed AbortLine). l.items) c.new.ensures)) in
    let told = report_of_journal (form_for r.json) (file_of r) (tries_of r) journal c.in_ok-text.text.items lawful c.in_ok-text.ensures.order c.in_ok-text.ensures.aborts in
    record {
      report = (lawful, c.in_ok-text.ensures.aborts ∙ ap (map (abort (file_of r).declarations)) (ap (λ (l : Listed AbortLine). l.items) c.new.ensures));
      same = told_same r.by (form_for r.json) (file_of r) (tries_of r) journal c.in_ok-text.text.items c.args.outcome told refl;
      state = state_is (form_for r.json) (file_of r) (tries_of r) journal c.in_ok-text.text.items told c.requires.outcome.final;
      orders = refl;
    }
