-- The steps of a run of a file in one thread.
use Rattle.std.specs.Prelude.{◌≡◌, ℕ, max, List, [], length, Option, None, Some}
use Rattle.sto_type.specs.Traits.{OfType, of_type}
use Rattle.sto_store.specs.declared.objects.Objects.{Objects}
use Rattle.sto_store.specs.contracts.objects.ObjectsTxType.TheImpl.{ghosts as type_ghosts}
use Rattle.sto_store.specs.contracts.objects.ObjectsNaming.TheImpl.{ghosts as naming_ghosts}
use Rattle.sto_store.specs.ObjectShapes.{AreOf}
use Rattle.sto_lang.specs.Objects.{shapes_of}
use Rattle.sto_core.specs.Opened.{opened_core}
use Rattle.sto_lang.specs.declared.file.Turns.{Turns}
use Rattle.sto_lang.specs.Scripts.{File}
use Rattle.sto_history.specs.Records.{Record}
use Rattle.sto_script.specs.declared.body.ScriptBody.{ScriptBody}
use Rattle.sto_transaction.specs.declared.machine.Machine.{Machine}
use Rattle.sto_journal.specs.declared.journal.Journal.{Journal}
use Rattle.sto_run_threads.specs.Plans.{plan_of}
use Rattle.sto_run_steps.specs.Logged.{RunLog}
use Rattle.sto_run_steps.specs.Proceeding.{heard_by, ProceedsAt}
use Rattle.sto_run_steps.specs.Turning.{WereStepped}
use Rattle.sto_run.specs.OfRecords.{IsOfRecords}

-- the entries of a schedule; none where there is none
abbrev pub turns_in : Option (List Turns) → List Turns
turns_in None = []
turns_in (Some schedule) = schedule

-- on objects of a type a file was run by a schedule; the journal is that of the records of this run. Where steps were kept from the first on,
-- the last log has all that its threads made, in their order: each on the pass of its thread, and in its turn
pub record IsRunFrom {T : Type 0} (t : OfType T) (ty : T) (file : File) (tries : ℕ) (schedule : List Turns) (first : RunLog) (journal : Journal) (last : RunLog) : Type 0 where
  pub records : List Record
  pub stepped : WereStepped {M = Machine T ScriptBody} (plan_of t ty file tries) (ProceedsAt t file ty) t.valid heard_by schedule (opened_core (t.sizes ty) (t.meaning ty).opened (max 1 (length file.threads))) first records last
  pub told : IsOfRecords file (t.meaning ty).homes records journal

-- so run, and these are all steps, where they are told
abbrev pub IsRunBy : {T : Type 0} → OfType T → T → File → ℕ → List Turns → Journal → RunLog → Type 0
IsRunBy t ty file tries schedule journal steps = IsRunFrom t ty file tries schedule (Some []) journal steps

-- the same by the file's own schedule
abbrev pub IsTraced : {T : Type 0} → OfType T → T → File → ℕ → Journal → RunLog → Type 0
IsTraced t ty file tries journal steps = IsRunBy t ty file tries (turns_in file.schedule) journal steps

-- what the trait of the type says of the objects of a file
abbrev pub of_objects : OfType Objects
of_objects = of_type naming_ghosts type_ghosts

-- the same on some objects of the file, of whose parts these are the homes
pub record IsTraceOf (file : File) (tries : ℕ) (journal : Journal) (homes : List (ℕ × ℕ)) (steps : RunLog) : Type 0 where
  pub objects : Objects
  pub kinds : AreOf objects (shapes_of file.declarations)
  pub same_homes : homes ≡ (of_objects.meaning objects).homes
  pub traced : IsTraced of_objects objects file tries journal steps

-- on some objects of the file it was run by its own schedule, and the journal is that of this run, whose steps are not told
pub record IsStepped (file : File) (tries : ℕ) (journal : Journal) : Type 0 where
  pub objects : Objects
  pub kinds : AreOf objects (shapes_of file.declarations)
  pub run : IsRunFrom of_objects objects file tries (turns_in file.schedule) None journal None
