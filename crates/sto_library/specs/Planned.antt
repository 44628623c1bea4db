-- What a plan answers.
use Rattle.std.specs.Prelude.{◌≡◌, ℕ, List, [], ◌∷◌, ◌++◌, length, Result, Ok, Err}
use Rattle.sto_model.specs.declared.shape.Shape.{Shape}
use Rattle.sto_shared_store.specs.declared.plan_error.PlanError.{PlanError}
use Rattle.sto_shared_store.specs.Plans.{IsReason}

-- the object was added, and its number is how many were added before; or it was not, for this reason
abbrev pub HasPlanned : {Id : Type 0} → Shape → (Id → ℕ) → (old new : List Shape) → Result Id PlanError → Type 0
HasPlanned shape number old new (Ok id) = (number id ≡ length old) × (new ≡ old ++ shape ∷ [])
HasPlanned shape number old new (Err error) = (new ≡ old) × IsReason error old shape
