-- Code that keeps an invariant of the objects' state.
use Rattle.std.specs.Prelude.{List, IfSome, Result, Ok, Err}
use Rattle.sto_model.specs.Objects.{machines_of}
use Rattle.sto_model.specs.Rows.{AllRise}
use Rattle.sto_model.specs.Run.{State}
use Rattle.sto_model.specs.declared.shape.Shape.{Shape}
use Rattle.sto_action.specs.Progs.{Prog}
use Rattle.sto_action.specs.Alone.{run_of, reason_of}
use Rattle.sto_action.specs.declared.outcome.Done.{Done}
use Rattle.sto_action.specs.declared.outcome.Done.TheVariants.{Gave, Cancelled}
use Rattle.sto_action.specs.declared.outcome.TransactionError.{TransactionError}

-- the value is good, and the state that was left has the invariant
abbrev pub IsKept : {A : Type 0} → (State → Type 0) → (A → Type 0) → A × State → Type 0
IsKept Inv Good r = Good r.0 × Inv r.1

-- run alone on a state of objects of these shapes which has the invariant, the code leaves one with the invariant, and gives a good value.
-- One that gives the transaction up leaves the state as it was. In each state of objects the keys of each of them rise
abbrev pub Keeps : {E A : Type 0} → List Shape → (State → Type 0) → (A → Type 0) → Prog E A → Type 0
Keeps shapes Inv Good p = (st : State) → AllRise st → Inv st → IfSome (run_of (machines_of shapes) p st) (IsKept Inv Good)

-- run alone on a state of objects of these shapes which has the invariant, the code gives the transaction up for no other reasons than such
abbrev pub Excuses : {E A : Type 0} → List Shape → (State → Type 0) → (E → Type 0) → Prog E A → Type 0
Excuses shapes Inv Why p = (st : State) → AllRise st → Inv st → IfSome (reason_of (machines_of shapes) p st) Why

-- whatever is given is good
abbrev pub Any : {A : Type 0} → A → Type 0
Any value = Unit {0}

-- what was given, if something was, is good
abbrev pub IfGave : {E A : Type 0} → (A → Type 0) → Result (Done A E) TransactionError → Type 0
IfGave Good (Ok (Gave value)) = Good value
IfGave Good (Ok (Cancelled reason)) = Unit {0}
IfGave Good (Err error) = Unit {0}

-- and the reason is such for which the transaction was given up, if it was
abbrev pub IfTold : {E A : Type 0} → (A → Type 0) → (E → Type 0) → Result (Done A E) TransactionError → Type 0
IfTold Good Why (Ok (Gave value)) = Good value
IfTold Good Why (Ok (Cancelled reason)) = Why reason
IfTold Good Why (Err error) = Unit {0}
