-- A store takes what the statements of a file may ask.
use Rattle.std.specs.Prelude.{map, true}
use Rattle.std.proofs.Common.{◌≡◌, List, sym, subst, inl, inr}
use Rattle.sto_model.specs.declared.call.Call.{Call}
use Rattle.sto_model.specs.declared.shape.Shape.{Shape}
use Rattle.sto_lang.specs.Statements.{Statements, Nothing, Ask, Sum, Diff, Choose, Repeat, Cancel}
use Rattle.sto_lang.specs.Taken.{are_taken}
use Rattle.sto_script.specs.Asks.{Asks}
use Rattle.sto_script.proofs.TakenCalls.{taken}
use Rattle.sto_type.specs.Joined.{joined, all_joined}
use Rattle.sto_store.specs.Stores.{mean_of, AreInOrder, AreKinds}
use Rattle.sto_store.specs.StoresLaw.{IsFitting, takes_all, means_is}

asked_fits : (s : Statements) (call : Call) → Asks s call → IsFitting call
asked_fits Nothing call h = absurd h
asked_fits (Ask to object code a b rest) call (inl h) = record { first = h.a_fits; second = h.b_fits }
asked_fits (Ask to object code a b rest) call (inr h) = asked_fits rest call h
asked_fits (Sum to a b rest) call h = asked_fits rest call h
asked_fits (Diff to a b rest) call h = asked_fits rest call h
asked_fits (Choose a test b first second rest) call (inl (inl h)) = asked_fits first call h
asked_fits (Choose a test b first second rest) call (inl (inr h)) = asked_fits second call h
asked_fits (Choose a test b first second rest) call (inr h) = asked_fits rest call h
asked_fits (Repeat times body rest) call (inl h) = asked_fits body call h
asked_fits (Repeat times body rest) call (inr h) = asked_fits rest call h
asked_fits (Cancel rest) call h = asked_fits rest call h

pub store_takes :
    {A B C D E F : Type 0} (f : A → Shape) (g : B → Shape) (h : C → Shape) (k : D → Shape) (l : E → Shape) (n : F → Shape)
    (xs : List A) (ys : List B) (zs : List C) (ws : List D) (vs : List E) (us : List F) (shapes : List Shape) → AreInOrder shapes → AreKinds (map f xs) (map g ys) (map h zs) (map k ws) (map l vs) (map n us) shapes
    → (s : Statements) → are_taken shapes s ≡ true → (call : Call) → Asks s call
    → (joined (all_joined (map (λ x. mean_of (f x)) xs))
    (joined (all_joined (map (λ x. mean_of (g x)) ys))
    (joined (all_joined (map (λ x. mean_of (h x)) zs))
    (joined (all_joined (map (λ x. mean_of (k x)) ws)) (joined (all_joined (map (λ x. mean_of (l x)) vs)) (all_joined (map (λ x. mean_of (n x)) us))))))).takes call
store_takes f g h k l n xs ys zs ws vs us shapes order kinds s t call asks =
    subst (λ m. m.takes call) (sym (means_is f g h k l n xs ys zs ws vs us shapes kinds)) ((takes_all shapes order).takes call (taken shapes s t call asks) (asked_fits s call asks))
