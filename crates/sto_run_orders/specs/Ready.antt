-- Files that can be run by any schedule, as the code has them, and their runs.
use Rattle.std.specs.Prelude.{◌≡◌, ◌≤◌, ◌<◌, ℕ, List, [], length, None}
use Rattle.std.specs.List.{All}
use Rattle.sto_store.specs.declared.objects.Objects.{Objects}
use Rattle.sto_store.specs.ObjectShapes.{AreOf}
use Rattle.sto_lang.specs.declared.file.Turns.{Turns}
use Rattle.sto_lang.specs.Objects.{shapes_of}
use Rattle.sto_lang.specs.Scripts.{File}
use Rattle.sto_lang.specs.Views.{file as view}
use Rattle.sto_journal.specs.declared.journal.Journal.{Journal}
use Rattle.sto_journal.specs.Journals.{places}
use Rattle.sto_run_threads.specs.Plans.{plan_of}
use Rattle.sto_run.specs.Meanings.{updating_by}
use Rattle.sto_run.specs.Stores.{means}
use Rattle.sto_run.specs.Alone.{RanAlone}
use Rattle.sto_run.specs.Lawful.{IsLawfulJournal}
use Rattle.sto_run.specs.Runnable.{IsRunnable}
use Rattle.sto_run.specs.Traced.{IsRunFrom, of_objects}
use Rattle.sto_orders.specs.Outcomes.{end_of, order_of}
use Rattle.sto_orders.specs.declared.outcome.Outcome.{Outcome}
use Rattle.sto_run_orders.specs.declared.runs.OrderRuns.{OrderRuns}
use Rattle.sto_run_orders.specs.declared.runs.LedRun.{LedRun}

-- its objects, its file, and how many aborted attempts a transaction may have
abbrev pub objects_of : OrderRuns → Objects
objects_of r = r.run.now.work.ty.now

abbrev pub file_of : OrderRuns → File
file_of r = view r.run.now.work.workload.file.now

abbrev pub tries_of : OrderRuns → ℕ
tries_of r = r.run.now.work.tries

-- it can be run
pub record IsReady (r : OrderRuns) : Type 0 where
  pub runnable : IsRunnable (plan_of of_objects (objects_of r) (file_of r) (tries_of r)) of_objects.valid r.run.now.opening.items
  pub kinds : AreOf (objects_of r) (shapes_of (file_of r).declarations)

-- the entries are of threads of the file
abbrev pub AreTurns : OrderRuns → List Turns → Type 0
AreTurns r schedule = All (λ turns. turns.thread < length (file_of r).threads) schedule

-- the journal is that of a run by a schedule
pub record IsRunOf (r : OrderRuns) (schedule : List Turns) (journal : Journal) : Type 0 where
  pub run : IsRunFrom of_objects (objects_of r) (file_of r) (tries_of r) schedule None journal None
  pub lawful : IsLawfulJournal (updating_by means) (file_of r) (tries_of r) journal
  pub alone : length (file_of r).threads ≤ 1 → RanAlone (file_of r) journal

-- the run leads to the outcome
pub record LeadsThere (r : OrderRuns) (o : Outcome) (led : LedRun) : Type 0 where
  pub run : IsRunOf r led.schedule.items led.journal
  pub same : end_of r.by (file_of r) (places led.journal.lines.items) ≡ end_of r.by (file_of r) (order_of o)
