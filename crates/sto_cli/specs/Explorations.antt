-- What `schedules` prints of a script, and why it refuses one.
use Rattle.std.specs.Prelude.{◌≡◌, ◌≤◌, ℕ, List, Bool, Option, None, Some, string_bytes}
use Rattle.std.specs.List.{AllByRecursion}
use Rattle.sto_lang.specs.Scripts.{File}
use Rattle.sto_report_spec.specs.declared.form.ReportForm.{ReportForm}
use Rattle.sto_console.specs.declared.refusal.InputFault.{InputFault}
use Rattle.sto_console.specs.declared.refusal.InputFault.TheVariants.{Script, NoReport, LongTrace, LongRun, ManySchedules, ManyStates, Schedule, Question}
use Rattle.sto_console.specs.declared.refusal.ScheduleCounts.{ScheduleCounts}
use Rattle.sto_run.specs.Forms.{form_for}
use Rattle.sto_explore.specs.declared.outcome.Outcomes.{Outcomes}
use Rattle.sto_run.specs.Stepped.{IsStepReport}
use Rattle.sto_run_schedules.specs.Leading.{HasSomeLongRun}
use Rattle.sto_run_schedules.specs.Explored.{AreOutcomesOf, HasTooMany}
use Rattle.sto_explore.specs.Texts.{entries_of, outcomes_in}

-- how many schedules a script may have of which every outcome is told
abbrev pub most_schedules : ℕ
most_schedules = 1000000

-- the text tells the outcomes of runs of the file: one by each schedule with at most so many switches, which are not too many, and of none
-- else. Each is what `step` prints of the file with the schedule that is printed before it
pub record IsExploration (switches tries : ℕ) (json : Bool) (file : File) (text : List ℕ) : Type 0 where
  pub outcomes : Outcomes
  pub of_file : AreOutcomesOf (form_for json) file tries switches outcomes
  pub few : outcomes.schedules ≤ most_schedules
  pub reports : AllByRecursion (λ o. IsStepReport (form_for json) file tries (entries_of o.legs.items) (string_bytes o.text)) outcomes.each.items
  pub told : text ≡ outcomes_in json file outcomes

-- so many schedules of the file make at most so many switches; where no number is told, they are more than are tried
abbrev pub IsCountAt : ReportForm → File → ℕ → ℕ → Option ℕ → Type 0
IsCountAt form file tries switches None = HasTooMany form file tries switches most_schedules
IsCountAt form file tries switches (Some count) = (outcomes : Outcomes) × AreOutcomesOf form file tries switches outcomes × (count ≡ outcomes.schedules)

-- these numbers of schedules make at most no, one and two switches
pub record AreCounts (form : ReportForm) (file : File) (tries : ℕ) (counts : ScheduleCounts) : Type 0 where
  pub none : IsCountAt form file tries 0 counts.none
  pub one : IsCountAt form file tries 1 counts.one
  pub two : IsCountAt form file tries 2 counts.two

-- too many schedules make at most so many switches, and these are the numbers for fewer
abbrev pub HasManySchedules : ℕ → ℕ → Bool → ScheduleCounts → File → Type 0
HasManySchedules switches tries json counts file = HasTooMany (form_for json) file tries switches most_schedules × AreCounts (form_for json) file tries counts

-- the file cannot be explored, for this fault
abbrev pub IsExploringFault : ℕ → ℕ → Bool → File → InputFault → Type 0
IsExploringFault switches tries json file LongRun = HasSomeLongRun tries file
IsExploringFault switches tries json file (ManySchedules counts) = HasManySchedules switches tries json counts file
IsExploringFault switches tries json file (Script fault) = ⊥
IsExploringFault switches tries json file NoReport = ⊥
IsExploringFault switches tries json file LongTrace = ⊥
IsExploringFault switches tries json file (ManyStates count) = ⊥
IsExploringFault switches tries json file (Schedule kind) = ⊥
IsExploringFault switches tries json file (Question fault) = ⊥
