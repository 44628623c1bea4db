-- What `run` of a worker says, code that is asked of it, and one transaction that adds 1 to a box which holds 0.
use Rattle.std.specs.Prelude.{◌^◌, ℕ, pos, List, [], ◌∷◌, Result}
use Rattle.sto_model.specs.Calls.{call_of}
use Rattle.sto_model.specs.declared.operation.Operation.TheVariants.{Get}
use Rattle.sto_model.specs.declared.shape.Shape.{Shape}
use Rattle.sto_model.specs.declared.shape.Shape.TheVariants.{Single}
use Rattle.sto_model.specs.Run.{State}
use Rattle.sto_model.specs.SequentialObjects.{opening_of}
use Rattle.sto_type.specs.Traits.{OfType}
use Rattle.sto_core.specs.Opened.{opened_core, opened_view}
use Rattle.sto_core.specs.declared.view.View.{View}
use Rattle.sto_action.specs.declared.short_reply.ShortReply.{ShortReply}
use Rattle.sto_action.specs.Progs.{Prog, Asks, Gives, Cancels}
use Rattle.sto_action.specs.declared.outcome.Done.{Done}
use Rattle.sto_action.specs.declared.outcome.TransactionError.{TransactionError}
use Rattle.sto_action.specs.Atomic.{HasLed}
use Rattle.sto_library.specs.Values.{Working}
use Rattle.sto_test_premises.specs.Turns.{view_at, after_turns}
use Rattle.sto_test_premises.specs.LostUpdate.{third_core}
use Rattle.sto_test_premises.specs.Adding.{box, reads, adds, by}

-- the clause `led` of `run`, of a worker before and after it
abbrev pub HasRun : {T E A : Type 0} → OfType T → (before after : Working T) → (most : ℕ) → Prog E A → Result (Done A E) TransactionError → Type 0
HasRun t before after most p result =
    HasLed (t.meaning before.words.ty) before.seat.me.0.view after.seat.me.0.view (2 ^ 16) after.left before.shapes most p result

-- whatever it hears, the code gives a value in the end
abbrev pub AlwaysGives : {E A : Type 0} → Prog E A → Type 0
AlwaysGives (Asks call k) = (h : ShortReply) → AlwaysGives (k h)
AlwaysGives (Gives value) = Unit {0}
AlwaysGives (Cancels e) = ⊥

-- code that gets the value of the first object, and goes on by it
abbrev pub get_then : {E A : Type 0} → (ShortReply → Prog E A) → Prog E A
get_then next = Asks (call_of 0 Get (pos 0) (pos 0)) next

-- code that gives what a get of the first object answers
abbrev pub gets : {E : Type 0} → Prog E ShortReply
gets = get_then (λ h. Gives h)

-- code that is given up for what a get of the first object answers
abbrev pub gives_up : {A : Type 0} → Prog ShortReply A
gives_up = get_then (λ h. Cancels h)

-- a store of one box
abbrev pub shapes : List Shape
shapes = Single (pos 0) ∷ []

-- the view of a worker that has done nothing, and after it has read the box
abbrev pub unused : View
unused = opened_view [] box.opened 0

abbrev pub has_read : View
has_read = view_at (after_turns (by 0 reads) (opened_core [] box.opened 1)) 0

-- and after it has added 1 to the box
abbrev pub has_added : View
has_added = view_at (after_turns (by 0 (adds (pos 1))) (opened_core [] box.opened 1)) 0

-- the views of two workers that have each added 1, the first one after it had lost an attempt
abbrev pub first_worker : View
first_worker = view_at third_core 0

abbrev pub second_worker : View
second_worker = view_at third_core 1

-- the rows of the box as it was opened, and where it holds this number
abbrev pub opening_rows : State
opening_rows = opening_of box.machines

abbrev pub rows_with : ℕ → State
rows_with n = ((pos 0, pos n) ∷ []) ∷ []
