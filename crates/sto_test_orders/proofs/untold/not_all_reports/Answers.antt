use Rattle.std.proofs.Common.{◌≡◌, Option, Vec, Global, refl, subst, arith}
use Rattle.std.proofs.lemmas.List.Elements.{All-head}
use Rattle.sto_lang.specs.declared.file.Turns.{Turns}
use Rattle.sto_run.specs.Meanings.{updating_by}
use Rattle.sto_run.specs.Stores.{means}
use Rattle.sto_run_orders.specs.declared.report.OrderReport.{OrderReport}
use Rattle.sto_run_orders.specs.Reports.{IsReportBy}
use Rattle.sto_run_orders.proofs.Listing.{all_among, all_by, all_apart}
use Rattle.sto_test_orders.proofs.untold.not_all_reports.Goals as goal

pub returns-clause-left_out : goal.returns-clause-left_out
returns-clause-left_out c = λ by form f tries n reports text lawful none are. none (all_among by form f tries (updating_by means) n reports text are lawful)

pub returns-clause-twice : goal.returns-clause-twice
returns-clause-twice c = λ by form f tries r reports are.
    let same : 0 ≡ 1 = all_apart by form f tries _ are 0 1 r r refl refl refl in
    absurd (omega (arith, same))

pub returns-clause-elsewhere : goal.returns-clause-elsewhere
returns-clause-elsewhere c = λ by form f tries r reports schedule is wrong are.
    wrong (subst (IsReportBy form f tries r.report.items) is
    (All-head (λ (x : OrderReport). IsReportBy form f tries x.report.items x.schedule) r reports (all_by by form f tries _ are)))
