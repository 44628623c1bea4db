-- What it says that a shape takes a call.
use Rattle.std.proofs.Common.{◌≡◌, pos, Bool, true, false, ◌&&◌, refl}
use Rattle.std.specs.Prelude.{IsTrue}
use Rattle.std.specs.Ordering.{int_eq}
use Rattle.std.proofs.lemmas.Bool.Decides.{Decides-int_eq}
use Rattle.sto_model.specs.Objects.{takes, takes_call}
use Rattle.sto_model.specs.declared.call.Call.{Call}
use Rattle.sto_model.specs.declared.shape.Shape.{Shape}

both : (x y : Bool) → x && y ≡ true → (x ≡ true) × (y ≡ true)
both true true h = (refl, refl)
both true false h = absurd cc
both false y h = absurd cc

-- its third number is 0, and the shape takes the operation with the first
pub taken_call : (shape : Shape) (call : Call) → IsTrue (takes_call shape call) → (call.c ≡ pos 0) × IsTrue (takes shape call.operation call.a)
taken_call shape call h =
    let parts : (int_eq call.c (pos 0) ≡ true) × (takes shape call.operation call.a ≡ true) = both (int_eq call.c (pos 0)) (takes shape call.operation call.a) h in
    ((Decides-int_eq call.c (pos 0)).0 parts.0, parts.1)

-- and where that is so, the shape takes the call
pub takes_with_none : (shape : Shape) (call : Call) → call.c ≡ pos 0 → takes shape call.operation call.a ≡ true → takes_call shape call ≡ true
takes_with_none shape call none taken = (λ i. int_eq (none i) (pos 0) && taken i)
