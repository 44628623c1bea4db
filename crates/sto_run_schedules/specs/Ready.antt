-- Files that can be run by any schedule, as the code has them.
use Rattle.std.specs.Prelude.{◌≡◌, ℕ, List, Bool}
use Rattle.sto_store.specs.declared.objects.Objects.{Objects}
use Rattle.sto_store.specs.ObjectShapes.{AreOf}
use Rattle.sto_lang.specs.Objects.{shapes_of}
use Rattle.sto_lang.specs.Scripts.{File}
use Rattle.sto_lang.specs.Views.{file as view}
use Rattle.sto_run_threads.specs.Plans.{plan_of}
use Rattle.sto_run.specs.Runnable.{IsRunnable}
use Rattle.sto_run.specs.Traced.{of_objects}
use Rattle.sto_run.specs.Forms.{form_for}
use Rattle.sto_explore.specs.declared.outcome.Reported.{Reported}
use Rattle.sto_run_schedules.specs.Telling.{tells_of, busy_threads}
use Rattle.sto_run_schedules.specs.Leading.{LeadsTo, HasSomeLongRun}
use Rattle.sto_run_schedules.specs.declared.runs.FileRuns.{FileRuns}

-- its objects, its file, and how many aborted attempts a transaction may have
abbrev pub objects_of : {W : Type 0} → FileRuns W → Objects
objects_of r = r.run.now.work.ty.now

abbrev pub file_of : {W : Type 0} → FileRuns W → File
file_of r = view r.run.now.work.workload.file.now

abbrev pub tries_of : {W : Type 0} → FileRuns W → ℕ
tries_of r = r.run.now.work.tries

-- it can be run
pub record IsReady {W : Type 0} (r : FileRuns W) : Type 0 where
  pub runnable : IsRunnable (plan_of of_objects (objects_of r) (file_of r) (tries_of r)) of_objects.valid r.run.now.opening.items
  pub kinds : AreOf (objects_of r) (shapes_of (file_of r).declarations)
  pub threads : r.threads.items ≡ busy_threads (file_of r)

abbrev pub Tells : {W : Type 0} → FileRuns W → List ℕ → Bool → Type 0
Tells r = tells_of of_objects (objects_of r) (file_of r) (tries_of r)

abbrev pub Leads : {W : Type 0} → FileRuns W → List ℕ → Reported → Type 0
Leads r = LeadsTo (form_for r.json) (objects_of r) (file_of r) (tries_of r)

abbrev pub IsLong : {W : Type 0} → FileRuns W → Type 0
IsLong r = HasSomeLongRun (tries_of r) (file_of r)
