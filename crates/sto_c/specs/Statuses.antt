-- The number of each status, as include/sto.h has it.
use Rattle.std.specs.Prelude.{◌≡◌, ℕ, Result, Ok, Err}
use Rattle.sto_interactive.specs.declared.asking.AskError.{AskError}
use Rattle.sto_interactive.specs.declared.asking.AskError.TheVariants as ask_error
use Rattle.sto_shared_store.specs.declared.plan_error.PlanError.{PlanError}
use Rattle.sto_shared_store.specs.declared.plan_error.PlanError.TheVariants as plan_error
use Rattle.sto_shared_store.specs.declared.open_error.OpenError.{OpenError}
use Rattle.sto_shared_store.specs.declared.open_error.OpenError.TheVariants as open_error
use Rattle.sto_c.specs.declared.status.Status.{Status}
use Rattle.sto_c.specs.declared.status.Status.TheVariants as status

abbrev pub number : Status → ℕ
number status.NoMemory = 1
number status.Empty = 2
number status.Taken = 3
number status.OtherHandle = 4
number status.NoObject = 5
number status.NoCall = 6
number status.InTransaction = 7
number status.NoTransaction = 8
number status.Aborted = 9
number status.Busy = 10
number status.NoTickets = 11
number status.NoWorker = 12
number status.BadWorkers = 13
number status.BadKind = 14
number status.BadOrder = 15
number status.BadSize = 16
number status.TooMany = 17
number status.NoRoom = 18
number status.WorkersOut = 19
number status.BadNumbers = 20

-- 0 is that of a call that was done
abbrev pub number_of : Result (Unit {0}) Status → ℕ
number_of (Ok done) = 0
number_of (Err why) = number why

-- a function answers the number of what a call led to, of which this is so
pub record Answers (answer : ℕ) (P : Result (Unit {0}) Status → Type 0) : Type 0 where
  pub done : Result (Unit {0}) Status
  pub number : answer ≡ number_of done
  pub so : P done

-- what tells why an object could not be planned, and why a store was not opened
abbrev pub of_unplanned : PlanError → Status
of_unplanned plan_error.OutOfOrder = status.BadOrder
of_unplanned plan_error.NoRoom = status.BadSize
of_unplanned plan_error.TooMany = status.TooMany
of_unplanned plan_error.NoMemory = status.NoMemory

abbrev pub of_unopened : OpenError → Status
of_unopened open_error.Workers = status.BadWorkers
of_unopened open_error.NoMemory = status.NoMemory

-- what tells why a call was not answered
abbrev pub of_unasked : AskError → Status
of_unasked ask_error.NoTransaction = status.NoTransaction
of_unasked ask_error.Untaken = status.NoCall
of_unasked ask_error.Aborted = status.Aborted
of_unasked ask_error.NoMemory = status.NoMemory
