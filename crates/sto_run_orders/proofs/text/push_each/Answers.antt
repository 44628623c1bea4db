use Rattle.sto_lang.specs.Views.{file as view}
use Rattle.sto_explore.proofs.AddedText.{numbered_more}
use Rattle.sto_run_orders.specs.Texts.{report_text}
use Rattle.sto_run_orders.proofs.text.push_each.Goals as goal

pub loop-place-preserved : goal.loop-place-preserved
loop-place-preserved c =
    numbered_more (report_text (view c.args.file.now)) c.args.reports.now c.loop-place.place c.index-reports-place.result c.args.out.now.items c.loop-place.out.items c.push_report.new.out.items
    c.loop-place-test.true c.index-reports-place.is c.loop-place.invariant c.in_ok-push_report.ensures
