-- What all orders of a file's transactions lead to, as reports.
use Rattle.std.specs.Prelude.{◌≡◌, ℕ, List, [], ◌∷◌, length, map, flat_map, Option, None, Some, Vec, slice_get}
use Rattle.std.specs.List.{All, AllZip, Contains}
use Rattle.std.specs.List.Sorted.{IsPermutation, IsSortedByKey}
use Rattle.std.specs.Ordering.{nat_cmp}
use Rattle.std.specs.Cmp.Lexicographic.{slice_cmp}
use Rattle.std.specs.declared.alloc.Global.{Global}
use Rattle.sto_lang.specs.declared.file.Turns.{Turns}
use Rattle.sto_lang.specs.Scripts.{File}
use Rattle.sto_report_spec.specs.declared.form.ReportForm.{ReportForm}
use Rattle.sto_model.specs.Run.{State}
use Rattle.sto_report_spec.specs.Lawful.{IsLawfulIn}
use Rattle.sto_report_spec.specs.Replay.{final_state}
use Rattle.sto_run.specs.Meanings.{updating_by}
use Rattle.sto_run.specs.Stores.{means}
use Rattle.sto_run.specs.Forms.{order_told, aborts_told}
use Rattle.sto_run.specs.Stepped.{IsStepReport}
use Rattle.sto_orders.specs.declared.same_by.SameBy.{SameBy}
use Rattle.sto_orders.specs.declared.outcome.Outcome.{Outcome}
use Rattle.sto_orders.specs.Outcomes.{OrderEnd, end_of, order_of, AreOutcomes}
use Rattle.sto_run_orders.specs.declared.report.OrderReport.{OrderReport}

-- what is compared of a report
abbrev pub told_end : SameBy → ReportForm → File → List ℕ → OrderEnd
told_end by form file text = end_of by file (order_told form file.names text)

-- `step` prints the report of the file with this schedule; where there is none, it is a lawful report without an aborted attempt
abbrev pub IsReportBy : ReportForm → File → ℕ → List ℕ → Option (Vec Turns Global) → Type 0
IsReportBy form file tries text (Some schedule) = IsStepReport form file tries schedule.items text
IsReportBy form file tries text None = IsLawfulIn form (updating_by means) file tries text × (aborts_told form file.names text ≡ [])

-- the final state that stands beside the report is the one that it tells: that of the order that it names
abbrev pub state_told : ReportForm → File → List ℕ → State
state_told form file text = final_state file (order_told form file.names text)

abbrev pub HasTold : ReportForm → File → OrderReport → Type 0
HasTold form file r = r.state.items ≡ state_told form file r.report.items

-- the report tells an outcome of orders
pub record IsOutcomeReport (by : SameBy) (form : ReportForm) (file : File) (tries : ℕ) (o : Outcome) (r : OrderReport) : Type 0 where
  pub report : IsReportBy form file tries r.report.items r.schedule
  pub same : told_end by form file r.report.items ≡ end_of by file (order_of o)
  pub state : HasTold form file r
  pub orders : r.orders ≡ o.orders

-- the entries of a schedule; none where there is none
abbrev pub entries_in : Option (Vec Turns Global) → List Turns
entries_in None = []
entries_in (Some schedule) = schedule.items

-- what reports are ordered by: how many entries their schedules have, and then the thread and the steps of each entry
abbrev pub entry_rank : Turns → List ℕ
entry_rank entry = entry.thread ∷ entry.steps ∷ []

abbrev pub rank_of : List Turns → List ℕ
rank_of entries = length entries ∷ flat_map entry_rank entries

-- those with the fewest entries come first, and of as many entries those of lower threads and then of fewer steps, entry by entry
abbrev pub AreInOrder : List OrderReport → Type 0
AreInOrder reports = IsSortedByKey (λ r. rank_of (entries_in r.schedule)) (slice_cmp nat_cmp) reports

-- the reports tell the outcomes of all orders, each once, those with the fewest entries first
pub record AreOrderReports (by : SameBy) (form : ReportForm) (file : File) (tries : ℕ) (reports : List OrderReport) : Type 0 where
  pub found : List Outcome
  pub outcomes : AreOutcomes by file found
  pub told : List OrderReport
  pub each : AllZip (IsOutcomeReport by form file tries) found told
  pub same : IsPermutation told reports
  pub in_order : AreInOrder reports

-- no two of the reports tell the same
abbrev pub TellApart : SameBy → ReportForm → File → List OrderReport → Type 0
TellApart by form file reports =
    (i j : ℕ) (a b : OrderReport) → slice_get reports i ≡ Some a → slice_get reports j ≡ Some b
    → told_end by form file a.report.items ≡ told_end by form file b.report.items → i ≡ j

-- one of the reports tells the same as a text
abbrev pub IsAmong : SameBy → ReportForm → File → List OrderReport → List ℕ → Type 0
IsAmong by form file reports text = Contains (map (λ r. told_end by form file r.report.items) reports) (told_end by form file text)
