-- Every outcome of a file, where at most so many switches are made.
use Rattle.std.specs.Prelude.{ℕ, List, string_bytes}
use Rattle.std.specs.List.{AllByRecursion}
use Rattle.sto_store.specs.declared.objects.Objects.{Objects}
use Rattle.sto_store.specs.ObjectShapes.{AreOf}
use Rattle.sto_lang.specs.declared.file.Turns.{Turns}
use Rattle.sto_lang.specs.Objects.{shapes_of}
use Rattle.sto_lang.specs.Scripts.{File}
use Rattle.sto_report_spec.specs.declared.form.ReportForm.{ReportForm}
use Rattle.sto_run.specs.Traced.{of_objects}
use Rattle.sto_explore.specs.Explored.{Found, AreExplored, AreTooMany, start_of}
use Rattle.sto_explore.specs.Legs.{schedule_of}
use Rattle.sto_explore.specs.Outcomes.{AreOutcomes}
use Rattle.sto_explore.specs.declared.outcome.Reported.{Reported}
use Rattle.sto_explore.specs.declared.outcome.Outcomes.{Outcomes}
use Rattle.sto_run_schedules.specs.Telling.{tells_of, busy_threads}
use Rattle.sto_run.specs.Stepped.{IsStepReport}
use Rattle.sto_run_schedules.specs.Leading.{LeadsTo, Gives}

-- the outcomes of runs of a file: on its objects, one by each schedule with at most so many switches, and none else
pub record AreOutcomesOf (form : ReportForm) (file : File) (tries switches : ℕ) (outcomes : Outcomes) : Type 0 where
  pub objects : Objects
  pub kinds : AreOf objects (shapes_of file.declarations)
  pub runs : List (Found Reported)
  pub explored : AreExplored (start_of switches (busy_threads file)) (tells_of of_objects objects file tries) (LeadsTo form objects file tries) runs
  pub outcomes_of_them : AreOutcomes runs outcomes

-- each outcome is a report of the file by each schedule that gives the turns of its legs
abbrev pub AreReports : ReportForm → File → ℕ → Outcomes → Type 0
AreReports form file tries outcomes =
    AllByRecursion (λ o. (schedule : List Turns) → Gives (schedule_of o.legs.items) schedule → IsStepReport form file tries schedule (string_bytes o.text)) outcomes.each.items

-- there are more than so many of them
pub record HasTooMany (form : ReportForm) (file : File) (tries switches limit : ℕ) : Type 0 where
  pub objects : Objects
  pub kinds : AreOf objects (shapes_of file.declarations)
  pub runs : List (Found Reported)
  pub too_many : AreTooMany (start_of switches (busy_threads file)) (tells_of of_objects objects file tries) (LeadsTo form objects file tries) limit runs
