-- Reports of runs by a schedule.
use Rattle.std.specs.Prelude.{◌≡◌, ◌≤◌, ℕ, List, length, map, None}
use Rattle.sto_store.specs.declared.objects.Objects.{Objects}
use Rattle.sto_store.specs.ObjectShapes.{AreOf}
use Rattle.sto_lang.specs.Objects.{shapes_of}
use Rattle.sto_lang.specs.declared.file.Turns.{Turns}
use Rattle.sto_lang.specs.Scripts.{File}
use Rattle.sto_report_spec.specs.declared.form.ReportForm.{ReportForm}
use Rattle.sto_report_spec.specs.Lawful.{IsLawfulIn}
use Rattle.sto_journal.specs.declared.journal.Journal.{Journal}
use Rattle.sto_journal.specs.Journals.{places, abort}
use Rattle.sto_run.specs.Meanings.{updating_by}
use Rattle.sto_run.specs.Stores.{means}
use Rattle.sto_run.specs.Traced.{IsRunFrom, of_objects}
use Rattle.sto_run.specs.Forms.{order_told, aborts_told, IsAlone}

-- a text is the report of a lawful journal in a form
pub record IsReportOf (form : ReportForm) (file : File) (tries : ℕ) (journal : Journal) (text : List ℕ) : Type 0 where
  pub lawful : IsLawfulIn form (updating_by means) file tries text
  pub order : order_told form file.names text ≡ places journal.lines.items
  pub aborts : aborts_told form file.names text ≡ map (abort file.declarations) journal.aborts.items

-- a text is what `step` prints of a file with this schedule: the lawful report of a run of it by the schedule, on its objects. Where the file
-- has at most one script thread it is the one report of such a run
pub record IsStepReport (form : ReportForm) (file : File) (tries : ℕ) (schedule : List Turns) (text : List ℕ) : Type 0 where
  pub objects : Objects
  pub kinds : AreOf objects (shapes_of file.declarations)
  pub journal : Journal
  pub run : IsRunFrom of_objects objects file tries schedule None journal None
  pub report : IsReportOf form file tries journal text
  pub alone : length file.threads ≤ 1 → IsAlone form file text
