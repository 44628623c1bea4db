-- What the transactions of the bank do, and what they keep.
use Rattle.std.specs.List.{All, filter_map}
use Rattle.std.specs.Prelude.{◌≡◌, ℤ, pos, ◌+ℤ◌, ◌<ℤ◌, ◌≤ℤ◌, ℕ, int_lt, if◌then◌else◌, List, [], ◌∷◌, ◌++◌, fold, length, codes, Result}
use Rattle.std.specs.Fmt.{signed_decimal}
use Rattle.std.specs.declared.convert.Infallible.{Infallible}
use Rattle.either.specs.Either.{left, right}
use Rattle.either.specs.declared.Either.{Either}
use Rattle.sto_part.specs.Changes.{wrapped_sum, wrapped_difference}
use Rattle.sto_model.specs.declared.shape.Shape.{Shape}
use Rattle.sto_model.specs.declared.shape.Shape.TheVariants.{Single}
use Rattle.sto_model.specs.Run.{State}
use Rattle.sto_action.specs.declared.handles.BoxId.{BoxId}
use Rattle.sto_action.specs.declared.snapshot.SnapshotValues.{SnapshotValues}
use Rattle.sto_action.specs.Progs.{Prog, Gives, Cancels, chain}
use Rattle.sto_action.specs.Steps.{box_get, box_set}
use Rattle.sto_action.specs.declared.outcome.Done.{Done}
use Rattle.sto_action.specs.declared.outcome.TransactionError.{TransactionError}
use Rattle.sto_library.specs.Keeping.{Any, IfGave, IfTold}
use Rattle.sto_example_bank.specs.declared.NoTransfer.{NoTransfer}
use Rattle.sto_example_bank.specs.declared.NoTransfer.TheVariants.{Lacks}

-- how a reason prints itself
abbrev pub no_transfer_text : NoTransfer → List ℕ
no_transfer_text (Lacks missing) = codes "the account lacks " ++ signed_decimal missing

-- it takes an amount from an account, where it is there, and else says what is lacking; it gives what was there
abbrev pub withdraw : BoxId → ℤ → Prog NoTransfer ℤ
withdraw from amount = box_get from (λ x. if int_lt x amount then Cancels (Lacks (wrapped_difference amount x)) else box_set from (wrapped_difference x amount) (Gives x))

-- it adds an amount to an account
abbrev pub deposit : {E : Type 0} → BoxId → ℤ → Prog E (Unit {0})
deposit to amount = box_get to (λ y. box_set to (wrapped_sum y amount) (Gives tt))

-- one after the other: it takes an amount from one account, where it is there, and adds it to another; it gives what was there
abbrev pub transfer : BoxId → BoxId → ℤ → Prog NoTransfer ℤ
transfer from to amount = chain (withdraw from amount) (λ x. chain (deposit to amount) (λ _. Gives x))

-- the three accounts at the opening
abbrev pub accounts : List Shape
accounts = Single (pos 100) ∷ Single (pos 100) ∷ Single (pos 100) ∷ []

-- they hold these amounts
abbrev pub holding : ℤ → ℤ → ℤ → State
holding x y z = ((pos 0, x) ∷ []) ∷ ((pos 0, y) ∷ []) ∷ ((pos 0, z) ∷ []) ∷ []

-- none of them is below zero, and they hold 300 together
pub record HoldAll (state : State) : Type 0 where
  pub x : ℤ
  pub y : ℤ
  pub z : ℤ
  pub are : state ≡ holding x y z
  pub some_x : pos 0 ≤ℤ x
  pub some_y : pos 0 ≤ℤ y
  pub some_z : pos 0 ≤ℤ z
  pub sum : (x +ℤ y) +ℤ z ≡ pos 300

-- what a transfer and an audit led to, and what a clerk tells: a teller of a transfer, or an auditor of an audit
abbrev pub Moved : Type 0
Moved = Result (Done ℤ NoTransfer) TransactionError

abbrev pub Audited : Type 0
Audited = Result (Done (SnapshotValues 3 0) Infallible) TransactionError

abbrev pub Told : Type 0
Told = Either Moved Audited

-- something is lacking
abbrev pub IsLack : NoTransfer → Type 0
IsLack (Lacks missing) = pos 0 <ℤ missing

-- an audit saw three accounts with 300 together, at one time
abbrev pub IsAll : SnapshotValues 3 0 → Type 0
IsAll held = fold (λ (sum x : ℤ). sum +ℤ x) (pos 0) held.boxes ≡ pos 300

-- what the tellers told, among all that the clerks told
abbrev pub transfers : List Told → List Moved
transfers told = filter_map left told

-- what the audits saw
abbrev pub audits : List Told → List Audited
audits told = filter_map right told

-- both tellers told, and where a transfer was not made something lacked; both audits saw all; and the accounts are so at the end
pub record IsDay (told : List Told) (rows : State) : Type 0 where
  pub tellers : length (transfers told) ≡ 2
  pub lacks : All (IfTold Any IsLack) (transfers told)
  pub auditors : length (audits told) ≡ 2
  pub sees : All (IfGave IsAll) (audits told)
  pub holds : HoldAll rows
