use Rattle.std.proofs.Common.{◌∙◌, ap, take_all, arith}
use Rattle.sto_run_orders.specs.Texts.{all_orders}
use Rattle.sto_run_orders.proofs.Counts.{orders_more}
use Rattle.sto_run_orders.proofs.words.all_orders.Goals as goal

pub loop-report-preserved : goal.loop-report-preserved
loop-report-preserved c =
    orders_more c.args.reports.now c.loop-report.report-index c.report-item.result c.loop-report.orders c.more_orders-orders.result c.loop-report-test.true c.report-item.is c.loop-report.invariant c.more_orders-orders.ensures

pub returns : goal.returns
returns c = c.loop-report.invariant ∙ ap all_orders (take_all c.loop-report.report-index c.args.reports.now (omega (arith, c.loop-report-test.false)))
