-- An invariant of the objects' state that transactions keep.
use Rattle.std.specs.Prelude.{◌≡◌, List}
use Rattle.std.specs.List.{All}
use Rattle.sto_model.specs.SequentialObjects.{SequentialObject}
use Rattle.sto_model.specs.Run.{State, IsRun, state_along}
use Rattle.sto_model.specs.declared.body.Next.TheVariants.{Commit}
use Rattle.sto_type.specs.Meaning.{Meaning}
use Rattle.sto_core.specs.declared.view.View.{View}
use Rattle.sto_history.specs.History.{Transaction}
use Rattle.sto_history.specs.Done.{HasDone, AreAllDone, AreDoneBy}

module _ (ms : List SequentialObject) (Inv : State → Type 0) where
  -- where the transaction heard its replies on a state with the invariant and commits, it leaves one with the invariant
  abbrev pub KeepsState : Transaction → Type 0
  KeepsState t = (st : State) → Inv st → IsRun ms t.steps st t.replies → t.steps t.replies ≡ Commit → Inv (state_along ms t.steps st t.replies)

  -- it heard its replies on a state with the invariant
  pub record RanWithin (t : Transaction) : Type 0 where
    pub state : State
    pub holds : Inv state
    pub runs : IsRun ms t.steps state t.replies

-- all that a pass with this view has done keeps the invariant, and P is so wherever the invariant holds of what it looked at
pub record HasKept (m : Meaning) (Inv : State → Type 0) (v : View) (P : Type 0) : Type 0 where
  pub did : List Transaction
  pub done : AreAllDone m v did
  pub keeps : All (KeepsState m.machines Inv) did
  pub shows : All (RanWithin m.machines Inv) did → P

-- the same of what it did from the view v to the view w
pub record IsKeeping (m : Meaning) (Inv : State → Type 0) (v w : View) (P : Type 0) : Type 0 where
  pub did : List Transaction
  pub done : HasDone m v w did
  pub keeps : All (KeepsState m.machines Inv) did
  pub shows : All (RanWithin m.machines Inv) did → P

-- the same of passes with these views
pub record HaveKept (m : Meaning) (Inv : State → Type 0) (views : List View) (P : Type 0) : Type 0 where
  pub did : List Transaction
  pub done : AreDoneBy m views did
  pub keeps : All (KeepsState m.machines Inv) did
  pub shows : All (RanWithin m.machines Inv) did → P
