use Rattle.std.proofs.Common.{◌∷◌, ◌++◌, flat_map, take, drop, length, ◌-◌, List, ℕ, ap, ◌∙◌, append_assoc}
use Rattle.sto_lang.specs.Views.{file as view}
use Rattle.sto_explore.proofs.AddedText.{added_more, joined}
use Rattle.sto_run_orders.specs.declared.report.OrderReport.{OrderReport}
use Rattle.sto_run_orders.specs.Texts.{report_json}
use Rattle.sto_run_orders.proofs.json.push_each.Goals as goal

pub loop-report-preserved : goal.loop-report-preserved
loop-report-preserved c =
    added_more (λ (r : OrderReport). 44 ∷ report_json (view c.args.file.now) r) (take (length c.args.reports.now - 1) (drop 1 c.args.reports.now)) c.loop-report.report-index c.report-item.result
    c.push_report.new.out.items c.loop-report.out.items c.push_next.new.out.items
    c.loop-report-test.true c.report-item.is c.loop-report.invariant c.in_ok-push_next.ensures

pub returns : goal.returns
returns c =
    let text = report_json (view c.args.file.now) in
    let others : List ℕ = flat_map (λ (r : OrderReport). 44 ∷ report_json (view c.args.file.now) r) (take c.loop-report.report-index (take (length c.args.reports.now - 1) (drop 1 c.args.reports.now))) in
    c.loop-report.invariant
    ∙ ap (λ l. l ++ others) c.in_ok-push_report.ensures
    ∙ append_assoc c.args.out.now.items (text c.first-item.result) others
    ∙ ap (λ l. c.args.out.now.items ++ l) (joined text c.args.reports.now c.first-item.result c.loop-report.report-index c.in-len1-up.len_at_least c.first-item.is c.loop-report-test.false)
