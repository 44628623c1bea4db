-- The calls of a hash table, one by one.
use Rattle.std.specs.Prelude.{◌≡◌, ℕ, ℤ, IsTrue, refl}
use Rattle.std.specs.Int.{w64}
use Rattle.std.specs.Int.RustNames.{FitsSigned}
use Rattle.std.proofs.Common.{sym, subst}
use Rattle.sto_model.specs.declared.call.Call.{Call}
use Rattle.sto_model.specs.declared.operation.Operation.{Operation}
use Rattle.sto_model.specs.declared.operation.Operation.TheVariants.{Get, Set, Add, Test as TestWord, Take, Put, Remove, Has, Len, Next, Count, Scan, Push, Pop}
use Rattle.sto_model.specs.declared.shape.Shape.TheVariants.{Hash}
use Rattle.sto_model.specs.Calls.{call_of}
use Rattle.sto_model.specs.Objects.{takes}
use Rattle.sto_hash.specs.Hashed.{HashTakes}

by_operation :
    {P : Type 0} (buckets : ℕ) (o : Operation) (a : ℤ) → IsTrue (takes (Hash buckets 0) o a)
    → (o ≡ Get → P) → (o ≡ Put → P) → (o ≡ Remove → P) → (o ≡ Has → P) → (o ≡ Len → P) → P
by_operation buckets Get a h get put remove has len = get refl
by_operation buckets Set a h get put remove has len = cc
by_operation buckets Add a h get put remove has len = cc
by_operation buckets TestWord a h get put remove has len = cc
by_operation buckets Take a h get put remove has len = cc
by_operation buckets Put a h get put remove has len = put refl
by_operation buckets Remove a h get put remove has len = remove refl
by_operation buckets Has a h get put remove has len = has refl
by_operation buckets Len a h get put remove has len = len refl
by_operation buckets Next a h get put remove has len = cc
by_operation buckets Count a h get put remove has len = cc
by_operation buckets Scan a h get put remove has len = cc
by_operation buckets Push a h get put remove has len = cc
by_operation buckets Pop a h get put remove has len = cc

-- what is so of the five calls is so of each call that is taken
pub by_call :
    (buckets : ℕ) (P : Call → Type 0)
    → ((a b : ℤ) → P (call_of 0 Get a b)) → ((a b : ℤ) → FitsSigned w64 a → FitsSigned w64 b → P (call_of 0 Put a b)) → ((a b : ℤ) → P (call_of 0 Remove a b))
    → ((a b : ℤ) → P (call_of 0 Has a b)) → ((a b : ℤ) → P (call_of 0 Len a b)) → (call : Call) → HashTakes buckets call → P call
by_call buckets P get put remove has len call t =
    let same : (o : Operation) → call.operation ≡ o → call ≡ call_of 0 o call.a call.b = λ o e i. record { object = t.object i; operation = e i; a = call.a; b = call.b; c = t.third i } in
    by_operation buckets call.operation call.a t.taken
    (λ e. subst P (sym (same Get e)) (get call.a call.b))
    (λ e. subst P (sym (same Put e)) (put call.a call.b t.fits t.fits_too))
    (λ e. subst P (sym (same Remove e)) (remove call.a call.b))
    (λ e. subst P (sym (same Has e)) (has call.a call.b))
    (λ e. subst P (sym (same Len e)) (len call.a call.b))
