-- Reports that records make, and those that are kept from one run of a file to the next.
use Rattle.std.specs.Prelude.{◌≡◌, ◌≤◌, List, length, count_by, not, string_bytes}
use Rattle.std.specs.List.{All}
use Rattle.sto_history.specs.Records.{Record}
use Rattle.sto_journal.specs.declared.journal.Journal.{Journal}
use Rattle.sto_run_threads.specs.Told.{told_in}
use Rattle.sto_run.specs.Meanings.{updating_by}
use Rattle.sto_run.specs.Stores.{means}
use Rattle.sto_run.specs.Lawful.{IsLawfulJournal}
use Rattle.sto_run.specs.OfRecords.{IsOfRecords}
use Rattle.sto_run.specs.Alone.{RanAlone}
use Rattle.sto_run.specs.Traced.{of_objects}
use Rattle.sto_run.specs.Forms.{form_for}
use Rattle.sto_run.specs.Stepped.{IsReportOf}
use Rattle.sto_explore.specs.declared.outcome.Reported.{Reported}
use Rattle.sto_run_schedules.specs.Leading.{is_locked}
use Rattle.sto_run_schedules.specs.Ready.{objects_of, file_of, tries_of}
use Rattle.sto_run_schedules.specs.declared.runs.FileRuns.{FileRuns}
use Rattle.sto_run_schedules.specs.declared.kept.Kept.{Kept}
use Rattle.sto_run_schedules.specs.declared.kept.KeptReport.{KeptReport}

-- a report is that of a lawful journal which these records make, and says how many attempts of it were aborted
pub record MakesReport {W : Type 0} (r : FileRuns W) (records : List Record) (report : Reported) : Type 0 where
  pub journal : Journal
  pub of_records : IsOfRecords (file_of r) (of_objects.meaning (objects_of r)).homes records journal
  pub lawful : IsLawfulJournal (updating_by means) (file_of r) (tries_of r) journal
  pub alone : length (file_of r).threads ≤ 1 → RanAlone (file_of r) journal
  pub told : IsReportOf (form_for r.json) (file_of r) (tries_of r) journal (string_bytes report.text)
  pub locked : report.aborted.locked ≡ count_by is_locked journal.aborts.items
  pub changed : report.aborted.changed ≡ count_by (λ line. not (is_locked line)) journal.aborts.items

-- each report that is kept is one of the records beside it
abbrev pub AreRemembered : {W : Type 0} → FileRuns W → List KeptReport → Type 0
AreRemembered r reports = All (λ known. MakesReport r (told_in known.records) known.report) reports

abbrev pub Remembers : {W : Type 0} → FileRuns W → Kept → Type 0
Remembers r kept = AreRemembered r kept.reports.items
