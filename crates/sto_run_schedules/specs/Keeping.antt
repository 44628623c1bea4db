-- One report more is kept, or none.
use Rattle.std.specs.Prelude.{◌≡◌, ◌⊎◌, List, [], ◌∷◌, ◌++◌, Vec, map, string_bytes}
use Rattle.sto_transaction.specs.Plain.{plain}
use Rattle.sto_transaction.specs.declared.record.Record.{Record}
use Rattle.sto_explore.specs.declared.outcome.Reported.{Reported}
use Rattle.sto_run_schedules.specs.declared.kept.KeptReport.{KeptReport}

-- a report of the same records that says the same
pub record IsReportAgain {A : Type 0} (records : Vec Record A) (report : Reported) (known : KeptReport) : Type 0 where
  pub records_are : map plain known.records.items ≡ map plain records.items
  pub text : string_bytes known.report.text ≡ string_bytes report.text
  pub aborted : known.report.aborted ≡ report.aborted

abbrev pub Remembered : {A : Type 0} → Vec Record A → Reported → List KeptReport → List KeptReport → Type 0
Remembered records report was now = (now ≡ was) ⊎ ((known : KeptReport) × IsReportAgain records report known × (now ≡ was ++ known ∷ []))
