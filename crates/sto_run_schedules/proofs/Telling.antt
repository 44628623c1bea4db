-- The reports of outcomes.
use Rattle.std.specs.Prelude.{string_bytes, Bool, Some}
use Rattle.std.specs.List.{AllByRecursion}
use Rattle.std.proofs.Common.{◌≡◌, ℕ, List, ◌∷◌, [], ◌++◌, ap, sym, ◌∙◌, subst}
use Rattle.std.proofs.lemmas.Slice.Eq.{bytes_eq-Decides}
use Rattle.sto_store.specs.declared.objects.Objects.{Objects}
use Rattle.sto_store.specs.ObjectShapes.{AreOf}
use Rattle.sto_lang.specs.declared.file.Turns.{Turns}
use Rattle.sto_lang.specs.Objects.{shapes_of}
use Rattle.sto_lang.specs.Scripts.{File}
use Rattle.sto_report_spec.specs.declared.form.ReportForm.{ReportForm}
use Rattle.sto_journal.specs.declared.journal.Journal.{Journal}
use Rattle.sto_explore.specs.Explored.{Found, IsFound, start_of}
use Rattle.sto_explore.specs.Legs.{schedule_of}
use Rattle.sto_explore.specs.Schedules.{Place}
use Rattle.sto_run.specs.Meanings.{updating_by}
use Rattle.sto_run.specs.Stores.{means}
use Rattle.sto_run.specs.Alone.{RanAlone}
use Rattle.sto_run.specs.Traced.{of_objects}
use Rattle.sto_run.proofs.TracedRuns.{untold}
use Rattle.sto_run_schedules.specs.Telling.{tells_of, busy_threads}
use Rattle.sto_run.specs.Forms.{IsAlone}
use Rattle.sto_run.specs.Stepped.{IsStepReport, IsReportOf}
use Rattle.sto_run.proofs.Reports.{one_report}
use Rattle.sto_explore.specs.Outcomes.{IsOutcome}
use Rattle.sto_explore.specs.declared.outcome.Outcome.{Outcome}
use Rattle.sto_explore.specs.declared.outcome.Outcomes.{Outcomes}
use Rattle.sto_explore.specs.declared.outcome.Reported.{Reported}
use Rattle.sto_run_schedules.specs.Leading.{LeadsTo, Gives}
use Rattle.sto_run_schedules.specs.Explored.{AreOutcomesOf, AreReports}

-- what is so of all is so of one among others
among : {X : Type 0} (P : X → Type 0) (before : List X) (x : X) (others xs : List X) → xs ≡ before ++ x ∷ others → AllByRecursion P xs → P x
among {X} P before x others xs is all = here before (subst (AllByRecursion P) is all)
  where
    here : (front : List X) → AllByRecursion P (front ++ x ∷ others) → P x
    here [] h = h.0
    here (y ∷ front) h = here front h.1

-- the report of a run beside which nothing ran is the one of such a run
is_alone : (form : ReportForm) (file : File) (tries : ℕ) (journal : Journal) (text : List ℕ) → RanAlone file journal → IsReportOf form file tries journal text → IsAlone form file text
is_alone form file tries journal text alone r = one_report form (updating_by means) file tries journal text alone r.lawful r.order r.aborts

module _ (form : ReportForm) (objects : Objects) (file : File) (tries : ℕ) (kinds : AreOf objects (shapes_of file.declarations)) where
  -- what a run leads to is a report of the file by each schedule of its turns
  report_by : (turns : List ℕ) (r : Reported) (schedule : List Turns) → LeadsTo form objects file tries turns r → Gives turns schedule
      → IsStepReport form file tries schedule (string_bytes r.text)
  report_by turns r schedule l is =
      let by = l.run schedule is in record {
        objects = objects;
        kinds = kinds;
        journal = l.journal;
        run = untold of_objects objects file tries schedule l.journal (Some []) by.0 by.1;
        report = l.report;
        alone = λ few. is_alone form file tries l.journal (string_bytes r.text) (l.alone few) l.report;
      }

  -- so is the text of an outcome by those of the turns of its legs
  outcome_by : (start : Place) (tells : List ℕ → Bool → Type 0) (runs : List (Found Reported)) (o : Outcome)
      → AllByRecursion (IsFound start tells (LeadsTo form objects file tries)) runs → IsOutcome runs o
      → (schedule : List Turns) → Gives (schedule_of o.legs.items) schedule → IsStepReport form file tries schedule (string_bytes o.text)
  outcome_by start tells runs o all is schedule gives =
      let f = is.legs in
      let found = among (IsFound start tells (LeadsTo form objects file tries)) f.before f.x f.others runs f.among all in
      let same : string_bytes o.text ≡ string_bytes f.x.report.text = (bytes_eq-Decides (string_bytes o.text) (string_bytes f.x.report.text)).0 f.leads in
      subst (IsStepReport form file tries schedule) (sym same)
      (report_by (schedule_of f.x.legs) f.x.report schedule found.reported (gives ∙ ap schedule_of (sym f.same)))

  outcomes_by : (start : Place) (tells : List ℕ → Bool → Type 0) (runs : List (Found Reported)) (os : List Outcome)
      → AllByRecursion (IsFound start tells (LeadsTo form objects file tries)) runs → AllByRecursion (IsOutcome runs) os
      → AllByRecursion (λ (o : Outcome). (schedule : List Turns) → Gives (schedule_of o.legs.items) schedule → IsStepReport form file tries schedule (string_bytes o.text)) os
  outcomes_by start tells runs [] all each = tt
  outcomes_by start tells runs (o ∷ os) all each = (outcome_by start tells runs o all each.0, outcomes_by start tells runs os all each.1)

-- each outcome of the runs of a file is a report of it by each schedule of the turns of its legs
pub reports_of : (form : ReportForm) (file : File) (tries switches : ℕ) (outcomes : Outcomes) → AreOutcomesOf form file tries switches outcomes → AreReports form file tries outcomes
reports_of form file tries switches outcomes h =
    outcomes_by form h.objects file tries h.kinds (start_of switches (busy_threads file)) (tells_of of_objects h.objects file tries) h.runs outcomes.each.items
    h.explored.each h.outcomes_of_them.each
