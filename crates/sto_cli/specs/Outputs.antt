-- What a command may print for the bytes that it reads, and the fault that it tells of them.
use Rattle.std.specs.Prelude.{◌≡◌, ℕ, List, length, Bool, Option, None, Ok}
use Rattle.sto_lang.specs.Files.{file_of}
use Rattle.sto_lang.specs.Scripts.{File}
use Rattle.sto_console.specs.declared.refusal.InputFault.{InputFault}
use Rattle.sto_console.specs.Faults.{IsScriptFault}
use Rattle.sto_console.specs.Workers.{workers_of}
use Rattle.sto_write.specs.Texts.{text_of, upgraded}
use Rattle.sto_gen.specs.Generated.{file_of as generated}
use Rattle.sto_report_spec.specs.Lawful.{IsLawfulIn}
use Rattle.sto_run.specs.Forms.{form_for, IsAlone}
use Rattle.sto_run.specs.Stepped.{IsStepReport}
use Rattle.sto_run.specs.Meanings.{updating_by}
use Rattle.sto_run.specs.Stores.{means}
use Rattle.sto_journal.specs.declared.journal.Journal.{Journal}
use Rattle.sto_bench.specs.Summary.{summary_of, HasTotals}
use Rattle.sto_run.specs.Lawful.{IsLawfulJournal}
use Rattle.sto_run.specs.Traced.{turns_in}
use Rattle.sto_args.specs.declared.command.Command.{Command}
use Rattle.sto_args.specs.declared.command.Command.TheVariants.{Run, Step, Trace, Draw, Explore, Schedules, Upgrade, Gen, Bench, Help}
use Rattle.sto_draw.specs.Drawn.{IsPicture, IsTooLong}
use Rattle.sto_run_schedules.specs.Leading.{HasSomeLongRun}
use Rattle.sto_cli.specs.Helps.{help_text}
use Rattle.sto_cli.specs.Schedules.{IsScheduled, IsScheduledFault}
use Rattle.sto_cli.specs.Traces.{IsTraceable, IsTrace, HasLongRun, IsRunFault, NeverMany}
use Rattle.sto_cli.specs.Orders.{same_by, IsExplored, IsOrdersFault}
use Rattle.sto_cli.specs.declared.told.Answer.{Answer}
use Rattle.sto_cli.specs.Explorations.{IsExploration, HasManySchedules}

-- a lawful report of the file that the bytes are, for so many tries and in the form that is asked for, with what the types of
-- objects say of updates; where one worker runs it, it is the one report of a run beside which nothing runs
abbrev pub IsRunReport : Option ℕ → ℕ → Bool → List ℕ → List ℕ → Type 0
IsRunReport threads tries json bytes text =
    (file : File) × (file_of bytes ≡ Ok file) × IsLawfulIn (form_for json) (updating_by means) file tries text
    × (workers_of threads (length file.threads) ≡ 1 → IsAlone (form_for json) file text)

-- the summary of a lawful journal of the file that the number generates, for 64 tries: it tells of all 3,200 transactions, and
-- of what they leave in whatever order: accounts that hold 64,000 together, 160 pairs in the log and 128 in the table of owners
abbrev pub IsSummary : ℕ → List ℕ → Type 0
IsSummary number text =
    (journal : Journal) × IsLawfulJournal (updating_by means) (generated number) 64 journal × (text ≡ summary_of number 3200 journal.state.items) × HasTotals journal.state.items

-- `run` prints a lawful report, which is one text where one worker runs the file, and `step` that of a run by the schedule, which is one text
-- with at most one script thread; `trace` prints the events of such a run, `draw` its picture, all three by the schedule of the words where these
-- have one; `explore` what all orders of the file's transactions lead to, and `schedules` the outcomes of runs by all schedules within a bound;
-- `upgrade` prints the canonical text of the file that the bytes are with its version set to 2; `gen` prints the canonical text of the file that
-- the number generates, which reads as that file, and `bench` the summary of a run of it; `--help` prints a page
abbrev pub IsOutput : Command → List ℕ → List ℕ → Type 0
IsOutput (Run threads tries json) bytes text = IsRunReport threads tries json bytes text
IsOutput (Step tries json schedule) bytes text = (file : File) × IsScheduled schedule bytes file × IsStepReport (form_for json) file tries (turns_in file.schedule) text
IsOutput (Trace tries json schedule) bytes text = (file : File) × IsTraceable schedule bytes file × IsTrace tries json file text
IsOutput (Draw tries schedule) bytes text = (file : File) × IsTraceable schedule bytes file × IsPicture tries file text
IsOutput (Explore by states json asked) bytes text = (answer : Answer) × IsExplored (same_by by) states json asked bytes answer text
IsOutput (Schedules switches tries json) bytes text = (file : File) × IsTraceable None bytes file × IsExploration switches tries json file text
IsOutput Upgrade bytes text = (file : File) × (file_of bytes ≡ Ok file) × (text ≡ text_of (upgraded file))
IsOutput (Gen number) bytes text = (text ≡ text_of (generated number)) × (file_of text ≡ Ok (generated number))
IsOutput (Bench number threads) bytes text = IsSummary number text
IsOutput (Help page) bytes text = text ≡ help_text page

-- the bytes have this fault, or the words beside them
abbrev pub HasFault : Command → List ℕ → InputFault → Type 0
HasFault (Run threads tries json) bytes fault = IsScriptFault bytes fault
HasFault (Step tries json schedule) bytes fault = IsScheduledFault schedule bytes fault
HasFault (Trace tries json schedule) bytes fault = IsRunFault (HasLongRun tries) NeverMany schedule bytes fault
HasFault (Draw tries schedule) bytes fault = IsRunFault (IsTooLong tries) NeverMany schedule bytes fault
HasFault (Explore by states json asked) bytes fault = IsOrdersFault (same_by by) states asked bytes fault
HasFault (Schedules switches tries json) bytes fault = IsRunFault (HasSomeLongRun tries) (HasManySchedules switches tries json) None bytes fault
HasFault Upgrade bytes fault = IsScriptFault bytes fault
HasFault (Gen number) bytes fault = ⊥
HasFault (Bench number threads) bytes fault = ⊥
HasFault (Help page) bytes fault = ⊥
