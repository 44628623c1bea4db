use Rattle.std.specs.List.{AllZip}
use Rattle.sto_run.specs.Forms.{form_for}
use Rattle.sto_run_orders.specs.Ready.{file_of, tries_of}
use Rattle.sto_run_orders.specs.Reports.{IsOutcomeReport}
use Rattle.sto_run_orders.proofs.runs.OrderRuns.reports_of.Given as goal

abbrev pub invariant-loop-outcome : goal.invariant-loop-outcome
invariant-loop-outcome l = AllZip (IsOutcomeReport l.self.by (form_for l.self.json) (file_of l.self) (tries_of l.self)) l.yielded l.reports.items
