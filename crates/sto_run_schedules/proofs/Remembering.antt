-- Reports that are remembered.
use Rattle.std.specs.Prelude.{count_by, not, string_bytes, Vec}
use Rattle.std.specs.List.{All}
use Rattle.std.proofs.Common.{◌≡◌, ℕ, List, [], ◌∷◌, ◌++◌, sym, ap, ◌∙◌, subst, inl, inr}
use Rattle.std.proofs.lemmas.List.Elements.{All-push}
use Rattle.sto_transaction.specs.declared.record.Record as code
use Rattle.sto_run_threads.specs.Told.{told_in}
use Rattle.sto_run_schedules.specs.Keeping.{Remembered}
use Rattle.sto_run_schedules.specs.declared.kept.KeptReport.{KeptReport}
use Rattle.sto_history.specs.Records.{Record}
use Rattle.sto_run.specs.Forms.{form_for}
use Rattle.sto_run.specs.Stepped.{IsReportOf}
use Rattle.sto_run.specs.OfRecords.{IsOfRecords}
use Rattle.sto_run.specs.Traced.{of_objects}
use Rattle.sto_explore.specs.declared.aborted.Aborted.{Aborted}
use Rattle.sto_explore.specs.declared.outcome.Reported.{Reported}
use Rattle.sto_run_schedules.specs.Ready.{objects_of, file_of, tries_of}
use Rattle.sto_run_schedules.specs.Remembered.{MakesReport, AreRemembered}
use Rattle.sto_run_schedules.specs.declared.runs.FileRuns.{FileRuns}

-- the same records make the same report again
pub again : {W : Type 0} (r : FileRuns W) (rs others : List Record) (x y : Reported) → rs ≡ others
    → string_bytes y.text ≡ string_bytes x.text → y.aborted ≡ x.aborted → MakesReport r rs x → MakesReport r others y
again r rs others x y same text aborted h = record {
  journal = h.journal;
  of_records = subst (λ (l : List Record). IsOfRecords (file_of r) (of_objects.meaning (objects_of r)).homes l h.journal) same h.of_records;
  lawful = h.lawful;
  alone = h.alone;
  told = subst (λ (t : List ℕ). IsReportOf (form_for r.json) (file_of r) (tries_of r) h.journal t) (sym text) h.told;
  locked = ap (λ (a : Aborted). a.locked) aborted ∙ h.locked;
  changed = ap (λ (a : Aborted). a.changed) aborted ∙ h.changed;
}

-- so what is remembered with it is so
pub remembered : {W A : Type 0} (r : FileRuns W) (records : Vec code.Record A) (rs : List Record) (x : Reported) (was now : List KeptReport) → told_in records ≡ rs
    → MakesReport r rs x → AreRemembered r was → Remembered records x was now → AreRemembered r now
remembered r records rs x was now same made before kept = elim kept [
  | inl none ↦ subst (AreRemembered r) (sym none) before
  | inr one ↦
      subst (AreRemembered r) (sym one.2)
      (All-push (λ (k : KeptReport). MakesReport r (told_in k.records) k.report) was one.0 before
      (again r rs (told_in one.0.records) x one.0.report (sym (one.1.records_are ∙ same)) one.1.text one.1.aborted made))
]
