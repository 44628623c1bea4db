-- The transactions that a pass has done, by what its view knows of them.
use Rattle.std.specs.Prelude.{◌≡◌, ℕ, ◌+◌, List, [], ◌∷◌, ◌++◌, false}
use Rattle.std.specs.List.{All}
use Rattle.sto_model.specs.Run.{State}
use Rattle.sto_type.specs.Meaning.{Meaning}
use Rattle.sto_core.specs.declared.view.View.{View}
use Rattle.sto_history.specs.Records.{is_abort}
use Rattle.sto_history.specs.Counted.{times_committed}
use Rattle.sto_history.specs.Told.{IsTold}
use Rattle.sto_history.specs.Added.{Grows}
use Rattle.sto_history.specs.History.{Transaction, times_numbered, LeadTo}

-- the view is told of the transaction, which was not aborted
pub record IsToldOf (m : Meaning) (v : View) (t : Transaction) : Type 0 where
  pub ended : is_abort t.verdict ≡ false
  pub told : IsTold m v t.steps t.replies t.verdict

-- from the view v to the view w a pass did these: it committed nothing else, and w is told of each
pub record HasDone (m : Meaning) (v w : View) (ts : List Transaction) : Type 0 where
  pub grows : Grows v w
  pub entries : (n : ℕ) → times_committed n w.entries ≡ times_committed n v.entries + times_numbered n ts
  pub each : All (IsToldOf m w) ts

-- these are all that a pass with this view has done
pub record AreAllDone (m : Meaning) (v : View) (ts : List Transaction) : Type 0 where
  pub entries : (n : ℕ) → times_committed n v.entries ≡ times_numbered n ts
  pub each : All (IsToldOf m v) ts

-- these are all that passes with these views have done, pass by pass
abbrev pub AreDoneBy : Meaning → List View → List Transaction → Type 0
AreDoneBy m [] ts = ts ≡ []
AreDoneBy m (v ∷ vs) ts = (own rest : List Transaction) × (ts ≡ own ++ rest) × AreAllDone m v own × AreDoneBy m vs rest

-- whatever transactions are all that passes with these views have done, a serial history of them ends with this state
abbrev pub HaveHistory : Meaning → List View → State → Type 0
HaveHistory m views last = (ts : List Transaction) → AreDoneBy m views ts → LeadTo m.machines ts last
