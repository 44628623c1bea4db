-- How errors print themselves.
use Rattle.std.specs.Prelude.{ℕ, List, codes}
use Rattle.sto_shared_store.specs.declared.plan_error.PlanError.{PlanError}
use Rattle.sto_shared_store.specs.declared.plan_error.PlanError.TheVariants as plan_error
use Rattle.sto_shared_store.specs.declared.open_error.OpenError.{OpenError}
use Rattle.sto_shared_store.specs.declared.open_error.OpenError.TheVariants as open_error
use Rattle.sto_shared_store.specs.declared.owned_store.HireError.{HireError}
use Rattle.sto_shared_store.specs.declared.owned_store.HireError.TheVariants as hire_error

abbrev pub plan_error_text : PlanError → List ℕ
plan_error_text plan_error.OutOfOrder = codes "an object of a later kind stands before it"
plan_error_text plan_error.NoRoom = codes "the object would hold nothing, or too much"
plan_error_text plan_error.TooMany = codes "too many parts or objects"
plan_error_text plan_error.NoMemory = codes "out of memory"

abbrev pub open_error_text : OpenError → List ℕ
open_error_text open_error.Workers = codes "a store has 1 to 65,536 workers"
open_error_text open_error.NoMemory = codes "out of memory"

abbrev pub hire_error_text : HireError → List ℕ
hire_error_text hire_error.NoneLeft = codes "no worker is left"
hire_error_text hire_error.NoMemory = codes "out of memory"
