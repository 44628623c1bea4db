-- What the transactions of the queue do, and what they keep.
use Rattle.std.specs.Prelude.{◌≡◌, ℤ, pos, ◌+ℤ◌, List, [], ◌∷◌, Option, Some, None, if◌then◌else◌}
use Rattle.sto_model.specs.declared.shape.Shape.{Shape}
use Rattle.sto_model.specs.declared.shape.Shape.TheVariants.{Counter, Vector}
use Rattle.sto_model.specs.Run.{State}
use Rattle.sto_action.specs.declared.handles.CounterId.{CounterId}
use Rattle.sto_action.specs.declared.handles.VectorId.{VectorId}
use Rattle.sto_action.specs.Progs.{Prog, Gives, Cancels}
use Rattle.sto_action.specs.Steps.{counter_add, vector_push, vector_pop}
use Rattle.sto_library.specs.Contents.{total}
use Rattle.sto_library.specs.Vectors.{placed}
use Rattle.sto_example_queue.specs.declared.NoTurn.{NoTurn}
use Rattle.sto_example_queue.specs.declared.NoTurn.TheVariants.{Full, Empty, TooMuch}

-- it adds an amount to what was counted, and gives it
abbrev pub note : CounterId → ℤ → Prog NoTurn ℤ
note counted amount = counter_add counted amount (λ added. if added then Gives amount else Cancels TooMuch)

-- it puts an amount at the end of the line, where there is room, and notes it as sent
abbrev pub put : CounterId → VectorId → ℤ → Prog NoTurn ℤ
put sent line amount = vector_push line amount (λ pushed. if pushed then note sent amount else Cancels Full)

-- it notes what was taken as received, if something was
abbrev pub receive : CounterId → Option ℤ → Prog NoTurn ℤ
receive received (Some amount) = note received amount
receive received None = Cancels Empty

-- it takes the amount at the end of the line, and notes it as received
abbrev pub take : CounterId → VectorId → Prog NoTurn ℤ
take received line = vector_pop line (λ popped. receive received popped)

-- the objects at the opening
abbrev pub objects : List Shape
objects = Counter (pos 0) ∷ Counter (pos 0) ∷ Vector 64 ∷ []

-- so much was sent and received, and these wait, the last one first
abbrev pub holding : ℤ → ℤ → List ℤ → State
holding sent received waiting = ((pos 0, sent) ∷ []) ∷ ((pos 0, received) ∷ []) ∷ placed waiting ∷ []

-- what was sent is what was received and what waits in the line, in sum
pub record IsServed (state : State) : Type 0 where
  pub sent : ℤ
  pub received : ℤ
  pub waiting : List ℤ
  pub are : state ≡ holding sent received waiting
  pub all : sent ≡ received +ℤ total (placed waiting)
