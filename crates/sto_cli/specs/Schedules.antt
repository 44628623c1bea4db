-- A script with the schedule of words in the place of its own.
use Rattle.std.specs.Prelude.{◌≡◌, ℕ, List, Option, None, Some, Result, Ok, Err}
use Rattle.sto_lang.specs.Files.{file_of}
use Rattle.sto_lang.specs.Scripts.{File}
use Rattle.sto_lang.specs.declared.fault.FaultKind.{FaultKind}
use Rattle.sto_schedule.specs.Schedules.{with_schedule}
use Rattle.sto_console.specs.declared.refusal.InputFault.{InputFault}
use Rattle.sto_console.specs.declared.refusal.InputFault.TheVariants.{Script, NoReport, LongTrace, LongRun, ManySchedules, ManyStates, Schedule, Question}

-- a file with the schedule that words are, where there are words; else as it is
abbrev pub scheduled_by : Option (List ℕ) → File → Result File FaultKind
scheduled_by None file = Ok file
scheduled_by (Some words) file = with_schedule file words

-- the bytes are a script, and this is its file with the schedule of the words, where there are words
pub record IsScheduled (schedule : Option (List ℕ)) (bytes : List ℕ) (file : File) : Type 0 where
  pub script : File
  pub reads : file_of bytes ≡ Ok script
  pub scheduled : scheduled_by schedule script ≡ Ok file

-- the bytes are a script that could not have the words on its line `schedule`, which would have this kind of fault
pub record HasScheduleFault (schedule : Option (List ℕ)) (bytes : List ℕ) (kind : FaultKind) : Type 0 where
  pub script : File
  pub reads : file_of bytes ≡ Ok script
  pub refused : scheduled_by schedule script ≡ Err kind

-- the bytes are no script, for this fault, or one that could not have the schedule of the words
abbrev pub IsScheduledFault : Option (List ℕ) → List ℕ → InputFault → Type 0
IsScheduledFault schedule bytes (Script fault) = file_of bytes ≡ Err fault
IsScheduledFault schedule bytes (Schedule kind) = HasScheduleFault schedule bytes kind
IsScheduledFault schedule bytes NoReport = ⊥
IsScheduledFault schedule bytes LongTrace = ⊥
IsScheduledFault schedule bytes LongRun = ⊥
IsScheduledFault schedule bytes (ManySchedules counts) = ⊥
IsScheduledFault schedule bytes (ManyStates count) = ⊥
IsScheduledFault schedule bytes (Question fault) = ⊥

-- the words are no schedule of a file, for this fault
abbrev pub IsUnscheduled : Option (List ℕ) → File → InputFault → Type 0
IsUnscheduled schedule file (Schedule kind) = scheduled_by schedule file ≡ Err kind
IsUnscheduled schedule file (Script fault) = ⊥
IsUnscheduled schedule file NoReport = ⊥
IsUnscheduled schedule file LongTrace = ⊥
IsUnscheduled schedule file LongRun = ⊥
IsUnscheduled schedule file (ManySchedules counts) = ⊥
IsUnscheduled schedule file (ManyStates count) = ⊥
IsUnscheduled schedule file (Question fault) = ⊥
