-- How errors print themselves.
use Rattle.std.specs.Prelude.{ℕ, List, codes}
use Rattle.sto_action.specs.ErrorTexts.{transaction_error_text}
use Rattle.sto_shared_store.specs.ErrorTexts.{plan_error_text, open_error_text}
use Rattle.sto_library.specs.declared.error.StoreError.{StoreError}
use Rattle.sto_library.specs.declared.error.StoreError.TheVariants as store_error
use Rattle.sto_library.specs.declared.store.LookError.{LookError}
use Rattle.sto_library.specs.declared.store.LookError.TheVariants as look_error
use Rattle.sto_library.specs.declared.task.TaskError.{TaskError}
use Rattle.sto_library.specs.declared.task.TaskError.TheVariants as task_error

abbrev pub look_error_text : LookError → List ℕ
look_error_text look_error.NoWorker = codes "no worker rests in the store"
look_error_text (look_error.Transaction error) = transaction_error_text error

abbrev pub task_error_text : TaskError → List ℕ
task_error_text task_error.NoWorker = codes "there are fewer workers than tasks"
task_error_text task_error.NoMemory = codes "out of memory"

-- of any call of the library
abbrev pub store_error_text : StoreError → List ℕ
store_error_text (store_error.Plan error) = plan_error_text error
store_error_text (store_error.Open error) = open_error_text error
store_error_text (store_error.Task error) = task_error_text error
store_error_text (store_error.Transaction error) = transaction_error_text error
store_error_text (store_error.Look error) = look_error_text error
store_error_text store_error.Close = codes "the store was not closed"
