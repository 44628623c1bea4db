use Rattle.std.proofs.Common.{◌≡◌, take}
use Rattle.sto_run_orders.specs.Texts.{all_orders}
use Rattle.sto_run_orders.proofs.words.all_orders.Given as goal

abbrev pub invariant-loop-report : goal.invariant-loop-report
invariant-loop-report l = l.orders ≡ all_orders (take l.report-index l.reports)
