-- An array is steady.
use Rattle.std.proofs.Common.{◌≡◌, ℕ, ℤ, Bool, true, false, nat_eq, Some, None, Option, List, [], ◌∷◌, refl, ap, sym, ◌∙◌, inl, inr}
use Rattle.sto_model.specs.declared.operation.Operation.{Operation}
use Rattle.sto_model.specs.declared.operation.Operation.TheVariants.{Get, Set, Add, Test as TestWord, Take, Put, Remove, Has, Len, Next, Count, Scan, Push, Pop}
use Rattle.sto_type.specs.Known.{Known, IsWithin}
use Rattle.sto_type.specs.Meaning.{IsSteady}
use Rattle.sto_type.specs.SteadyLaw.{by_known, no_part, same_part}
use Rattle.sto_counter.specs.Sums.{add_items}
use Rattle.sto_array.specs.Arrayed.{array_meaning, array_need, array_items, place_of, asked, value_known}

pub asked_on : (i : ℕ) (k more : Known) (p : ℕ) → more p ≡ None → asked i (k i) ≡ Some p → asked i (more i) ≡ Some p
asked_on i k more p none e = elim (by_known (k i)) [
  | inl unknown ↦
      let it : Some i ≡ Some p = rw unknown at e in
      let here : more i ≡ None = ap more (same_part i p it) ∙ none in rw here it
  | inr known ↦ let no : None ≡ Some p = rw known.1 at e in no_part p (sym no)
]

pub asked_off : (i : ℕ) (k more : Known) → IsWithin k more → asked i (k i) ≡ None → (asked i (more i) ≡ None) × (more i ≡ k i)
asked_off i k more w e = elim (by_known (k i)) [
  | inl unknown ↦ let no : Some i ≡ None = rw unknown at e in no_part i no
  | inr known ↦ rw (w i known.0 known.1, known.1) (refl, refl)
]

array_on : (o : Operation) (q : Option ℕ) (k more : Known) (p : ℕ) → more p ≡ None → array_need o q k ≡ Some p → array_need o q more ≡ Some p
array_on Get (Some i) k more p none e = asked_on i k more p none e
array_on Get None k more p none e = cc
array_on Set q k more p none e = cc
array_on Add (Some i) k more p none e = asked_on i k more p none e
array_on Add None k more p none e = cc
array_on TestWord q k more p none e = cc
array_on Take q k more p none e = cc
array_on Put q k more p none e = cc
array_on Remove q k more p none e = cc
array_on Has q k more p none e = cc
array_on Len q k more p none e = cc
array_on Next q k more p none e = cc
array_on Count q k more p none e = cc
array_on Scan q k more p none e = cc
array_on Push q k more p none e = cc
array_on Pop q k more p none e = cc

array_off : (o : Operation) (q : Option ℕ) (d : ℤ) (k more : Known) → IsWithin k more → array_need o q k ≡ None → (array_need o q more ≡ None) × (array_items o q d more ≡ array_items o q d k)
array_off Get (Some i) d k more w e = let it = asked_off i k more w e in (it.0, refl)
array_off Get None d k more w e = (refl, refl)
array_off Set q d k more w e = (refl, refl)
array_off Add (Some i) d k more w e = let it = asked_off i k more w e in (it.0, ap (λ (x : Option (List ℤ)). add_items i d (value_known x)) it.1)
array_off Add None d k more w e = (refl, refl)
array_off TestWord q d k more w e = (refl, refl)
array_off Take q d k more w e = (refl, refl)
array_off Put q d k more w e = (refl, refl)
array_off Remove q d k more w e = (refl, refl)
array_off Has q d k more w e = (refl, refl)
array_off Len q d k more w e = (refl, refl)
array_off Next q d k more w e = (refl, refl)
array_off Count q d k more w e = (refl, refl)
array_off Scan q d k more w e = (refl, refl)
array_off Push q d k more w e = (refl, refl)
array_off Pop q d k more w e = (refl, refl)

pub array_steady : (n : ℕ) (first : ℤ) → IsSteady (array_meaning n first)
array_steady n first = record {
  steady = λ call k more p w none e. array_on call.operation (place_of n call.a) k more p none e;
  done = λ call k more w e. array_off call.operation (place_of n call.a) call.b k more w e;
}
