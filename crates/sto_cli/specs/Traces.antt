-- What `trace` prints of a script, and the faults that it, `draw` and `schedules` tell of one.
use Rattle.std.specs.Prelude.{◌≡◌, ◌≤◌, ◌<◌, ℕ, List, length, Bool, if◌then◌else◌, Option, None, Some}
use Rattle.sto_lang.specs.Scripts.{File}
use Rattle.sto_lang.specs.Drafts.{transaction_count}
use Rattle.sto_console.specs.declared.refusal.InputFault.{InputFault}
use Rattle.sto_console.specs.declared.refusal.ScheduleCounts.{ScheduleCounts}
use Rattle.sto_console.specs.declared.refusal.InputFault.TheVariants.{Script, NoReport, LongTrace, LongRun, ManySchedules, ManyStates, Schedule, Question}
use Rattle.sto_console.specs.declared.refusal.Refusal.{Refusal}
use Rattle.sto_console.specs.declared.refusal.Refusal.TheVariants.{Usage, Input, ReadFault, WriteFault, NoMemory}
use Rattle.sto_cli.specs.Schedules.{IsScheduled, HasScheduleFault, IsScheduledFault}
use Rattle.sto_trace.specs.declared.Step.{Step}
use Rattle.sto_trace_text.specs.Texts.{Names, trace_text}
use Rattle.sto_trace_text.specs.Json.{trace_json}
use Rattle.sto_journal.specs.declared.journal.Journal.{Journal}
use Rattle.sto_run.specs.Meanings.{updating_by}
use Rattle.sto_run.specs.Stores.{means}
use Rattle.sto_run.specs.Lawful.{IsLawfulJournal}
use Rattle.sto_run.specs.Alone.{RanAlone}
use Rattle.sto_run.specs.Logged.{RunLog}
use Rattle.sto_run.specs.Traced.{IsTraceOf, IsStepped}

-- how many transactions a script may have that is traced, drawn or run by all schedules
abbrev pub most_traced : ℕ
most_traced = 256

-- the bytes are this file, with the schedule of the words where there are words, and it has few enough transactions
abbrev pub IsTraceable : Option (List ℕ) → List ℕ → File → Type 0
IsTraceable schedule bytes file = IsScheduled schedule bytes file × (transaction_count file.threads ≤ most_traced)

-- the lines of steps, each of JSON or of text
abbrev pub lines_in : Bool → Names → List Step → List ℕ
lines_in json names steps = if json then trace_json names steps else trace_text names steps

-- the steps of a run were kept, and the text has a line for each, in their order
abbrev pub AreLinesOf : Bool → File → List (ℕ × ℕ) → RunLog → List ℕ → Type 0
AreLinesOf json file homes None text = ⊥
AreLinesOf json file homes (Some steps) text = text ≡ lines_in json (record { file = file; homes = homes }) steps

-- the text tells the events of a run of the file by its schedule: all of them, in their order, each on the pass of its thread. The
-- journal of this run is one of which `step` prints the report: it is lawful, and with at most one script thread it is the one of such
-- a run
pub record IsTrace (tries : ℕ) (json : Bool) (file : File) (text : List ℕ) : Type 0 where
  pub journal : Journal
  pub homes : List (ℕ × ℕ)
  pub steps : RunLog
  pub run : IsTraceOf file tries journal homes steps
  pub stepped : IsStepped file tries journal
  pub lines : AreLinesOf json file homes steps text
  pub lawful : IsLawfulJournal (updating_by means) file tries journal
  pub alone : length file.threads ≤ 1 → RanAlone file journal

-- a run of the file by its schedule had more steps than are kept
abbrev pub HasLongRun : ℕ → File → Type 0
HasLongRun tries file = (journal : Journal) × (homes : List (ℕ × ℕ)) × IsTraceOf file tries journal homes None

-- the bytes are no script, for this fault, or a script that could not have the schedule of the words, or that has too many transactions
abbrev pub IsTraceFault : Option (List ℕ) → List ℕ → InputFault → Type 0
IsTraceFault schedule bytes (Script fault) = IsScheduledFault schedule bytes (Script fault)
IsTraceFault schedule bytes (Schedule kind) = IsScheduledFault schedule bytes (Schedule kind)
IsTraceFault schedule bytes NoReport = ⊥
IsTraceFault schedule bytes LongTrace = (file : File) × IsScheduled schedule bytes file × (most_traced < transaction_count file.threads)
IsTraceFault schedule bytes LongRun = ⊥
IsTraceFault schedule bytes (ManySchedules counts) = ⊥
IsTraceFault schedule bytes (ManyStates count) = ⊥
IsTraceFault schedule bytes (Question fault) = ⊥

-- one run has no schedules to be counted
abbrev pub NeverMany : ScheduleCounts → File → Type 0
NeverMany counts file = ⊥

-- the same, or a script that can be traced, of which a run is too long, or that has too many schedules
abbrev pub IsRunFault : (File → Type 0) → (ScheduleCounts → File → Type 0) → Option (List ℕ) → List ℕ → InputFault → Type 0
IsRunFault IsLong IsMany schedule bytes LongRun = (file : File) × IsTraceable schedule bytes file × IsLong file
IsRunFault IsLong IsMany schedule bytes (ManySchedules counts) = (file : File) × IsTraceable schedule bytes file × IsMany counts file
IsRunFault IsLong IsMany schedule bytes (ManyStates count) = ⊥
IsRunFault IsLong IsMany schedule bytes (Question fault) = ⊥
IsRunFault IsLong IsMany schedule bytes (Script fault) = IsTraceFault schedule bytes (Script fault)
IsRunFault IsLong IsMany schedule bytes (Schedule kind) = IsTraceFault schedule bytes (Schedule kind)
IsRunFault IsLong IsMany schedule bytes NoReport = IsTraceFault schedule bytes NoReport
IsRunFault IsLong IsMany schedule bytes LongTrace = IsTraceFault schedule bytes LongTrace

-- why bytes were not traced, drawn or run by all schedules: for such a fault, and want of memory may come at any time
abbrev pub IsRefusalFor : (InputFault → Type 0) → Refusal → Type 0
IsRefusalFor IsFault (Input fault) = IsFault fault
IsRefusalFor IsFault NoMemory = Unit {0}
IsRefusalFor IsFault Usage = ⊥
IsRefusalFor IsFault ReadFault = ⊥
IsRefusalFor IsFault WriteFault = ⊥
