-- A look is answered by its transaction.
use Rattle.std.proofs.Common.{ℕ, Result, Ok, Err}
use Rattle.sto_type.specs.Traits.{OfType}
use Rattle.sto_action.specs.Progs.{Prog}
use Rattle.sto_action.specs.declared.outcome.Done.{Done}
use Rattle.sto_action.specs.declared.outcome.TransactionError.{TransactionError}
use Rattle.sto_library.specs.Values.{Stored}
use Rattle.sto_library.specs.Looks.{IsLookOf, HasLooked, looked_by}

pub answered : {T E A : Type 0} (t : OfType T) (old new : Stored T) (most : ℕ) (p : Prog E A) (outcome : Result (Done A E) TransactionError) → IsLookOf t old new most p outcome
    → HasLooked t old new most p (looked_by outcome)
answered t old new most p (Ok done) h = h
answered t old new most p (Err error) h = h
