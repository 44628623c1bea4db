-- What a run of a file by turns of its threads leads to.
use Rattle.std.specs.Prelude.{◌≡◌, ◌≤◌, ℕ, List, length, count_by, None, Bool, true, false, not, string_bytes}
use Rattle.std.specs.List.{flat_map}
use Rattle.sto_store.specs.declared.objects.Objects.{Objects}
use Rattle.sto_store.specs.ObjectShapes.{AreOf}
use Rattle.sto_lang.specs.declared.file.Turns.{Turns}
use Rattle.sto_lang.specs.Objects.{shapes_of}
use Rattle.sto_lang.specs.Scripts.{File}
use Rattle.sto_report_spec.specs.declared.form.ReportForm.{ReportForm}
use Rattle.sto_journal.specs.declared.journal.Journal.{Journal}
use Rattle.sto_journal.specs.declared.journal.AbortLine.{AbortLine}
use Rattle.sto_journal.specs.declared.journal.Cause.{Cause}
use Rattle.sto_journal.specs.declared.journal.Cause.TheVariants.{Locked, Changed}
use Rattle.sto_run_steps.specs.Logged.{RunLog}
use Rattle.sto_run_steps.specs.Turning.{entry_turns}
use Rattle.sto_run.specs.Meanings.{updating_by}
use Rattle.sto_run.specs.Stores.{means}
use Rattle.sto_run.specs.Lawful.{IsLawfulJournal}
use Rattle.sto_run.specs.Alone.{RanAlone}
use Rattle.sto_run.specs.Traced.{IsRunBy, of_objects}
use Rattle.sto_run.specs.Stepped.{IsReportOf}
use Rattle.sto_explore.specs.declared.outcome.Reported.{Reported}

-- the journal is that of a run of the file by a schedule, whose steps are told or were too many
abbrev pub IsJournalBy : Objects → File → ℕ → List Turns → Journal → Type 0
IsJournalBy objects file tries schedule journal = (steps : RunLog) × IsRunBy of_objects objects file tries schedule journal steps

-- the schedules that give these turns
abbrev pub Gives : List ℕ → List Turns → Type 0
Gives turns schedule = flat_map entry_turns schedule ≡ turns

-- whether an attempt was aborted because a part was locked
abbrev pub by_lock : Cause → Bool
by_lock (Locked home) = true
by_lock (Changed home by) = false

abbrev pub is_locked : AbortLine → Bool
is_locked line = by_lock line.cause

-- what a run of a file with these turns leads to, whichever schedule gives them: the report of a lawful journal of such a run, which is the one
-- of a run beside which nothing runs where the file has at most one thread; and how many attempts this journal has of each cause
pub record LeadsTo (form : ReportForm) (objects : Objects) (file : File) (tries : ℕ) (turns : List ℕ) (r : Reported) : Type 0 where
  pub journal : Journal
  pub run : (schedule : List Turns) → Gives turns schedule → IsJournalBy objects file tries schedule journal
  pub lawful : IsLawfulJournal (updating_by means) file tries journal
  pub alone : length file.threads ≤ 1 → RanAlone file journal
  pub report : IsReportOf form file tries journal (string_bytes r.text)
  pub locked : r.aborted.locked ≡ count_by is_locked journal.aborts.items
  pub changed : r.aborted.changed ≡ count_by (λ line. not (is_locked line)) journal.aborts.items

-- a run of the file on its objects by some schedule has more events than a run keeps
pub record HasSomeLongRun (tries : ℕ) (file : File) : Type 0 where
  pub objects : Objects
  pub kinds : AreOf objects (shapes_of file.declarations)
  pub schedule : List Turns
  pub journal : Journal
  pub run : IsRunBy of_objects objects file tries schedule journal None
