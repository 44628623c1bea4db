-- What a look at a store leads to.
use Rattle.std.specs.Prelude.{◌≡◌, ◌^◌, ℕ, List, [], ◌∷◌, ◌++◌, Result, Ok, Err}
use Rattle.sto_type.specs.Traits.{OfType}
use Rattle.sto_core.specs.declared.view.View.{View}
use Rattle.sto_action.specs.Progs.{Prog}
use Rattle.sto_action.specs.declared.outcome.Done.{Done}
use Rattle.sto_action.specs.declared.outcome.TransactionError.{TransactionError}
use Rattle.sto_library.specs.Values.{Stored, Working}
use Rattle.sto_library.specs.Doings.{HasGiven, HasCause}
use Rattle.sto_library.specs.Tasks.{IsDone}
use Rattle.sto_library.specs.declared.store.LookError.{LookError}
use Rattle.sto_library.specs.declared.store.LookError.TheVariants as look_error

-- one worker of a store did this, and rests in it again; the others knew no more than before
pub record IsOneDone {T Out : Type 0} (old new : Stored T) (gives : Working T → Working T → Out → Type 0) (out : Out) : Type 0 where
  pub others : List View
  pub from : View
  pub to : View
  pub were : old.views ≡ others ++ from ∷ []
  pub are : new.views ≡ others ++ to ∷ []
  pub done : IsDone old.words old.shapes from to gives out

module _ {T E A : Type 0} (t : OfType T) (old new : Stored T) (most : ℕ) (p : Prog E A) where
  -- a worker ran this code and nothing else, and one of the runs led to this; where it was not run to its end, that has its cause
  abbrev pub IsLookOf : Result (Done A E) TransactionError → Type 0
  IsLookOf outcome = IsOneDone old new (λ before after o. HasGiven t before after 1 most p o × HasCause t before after (2 ^ 16) o) outcome

  -- what a look answers; where no worker rests, the store is as it was
  abbrev pub HasLooked : Result (Done A E) LookError → Type 0
  HasLooked (Ok done) = IsLookOf (Ok done)
  HasLooked (Err (look_error.Transaction error)) = IsLookOf (Err error)
  HasLooked (Err look_error.NoWorker) = (old.views ≡ []) × (new ≡ old)

-- what a look answers by what its transaction led to
abbrev pub looked_by : {E A : Type 0} → Result (Done A E) TransactionError → Result (Done A E) LookError
looked_by (Ok done) = Ok done
looked_by (Err error) = Err (look_error.Transaction error)
