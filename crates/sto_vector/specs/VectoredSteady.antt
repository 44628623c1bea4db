-- A vector is steady.
use Rattle.std.specs.Prelude.{unwrap_or}
use Rattle.std.proofs.lemmas.Bool.{cases_Bool}
use Rattle.std.proofs.Common.{◌≡◌, ℕ, ℤ, Bool, true, false, nat_eq, Some, None, Option, List, nat_lt, zero, suc, pos, slice_index_or, [], ◌∷◌, refl, ap, sym, ◌∙◌, inl, inr}
use Rattle.sto_model.specs.declared.operation.Operation.{Operation}
use Rattle.sto_model.specs.declared.operation.Operation.TheVariants.{Get, Set, Add, Test as TestWord, Take, Put, Remove, Has, Len, Next, Count, Scan, Push, Pop}
use Rattle.sto_type.specs.Known.{Known, IsWithin}
use Rattle.sto_type.specs.Meaning.{IsSteady}
use Rattle.sto_type.specs.SteadyLaw.{by_known, no_part, same_part}
use Rattle.sto_array.specs.Arrayed.{place_of}
use Rattle.sto_array.specs.ArrayedSteady.{asked_on, asked_off}
use Rattle.sto_vector.specs.Vectored.{vector_meaning, vector_need, vector_items, place_need, after_size, size_known, size_of}

place_on : (o : Operation) (q : Option ℕ) (k more : Known) (p n : ℕ) → more p ≡ None → place_need o q k n ≡ Some p → place_need o q more n ≡ Some p
place_on Get (Some i) k more p n none e = elim (cases_Bool (nat_lt i n)) [
  | inl hit ↦ rw hit (asked_on (suc i) k more p none (rw hit at e))
  | inr miss ↦ let no : None ≡ Some p = rw miss at e in no_part p (sym no)
]
place_on Get None k more p n none e = cc
place_on Pop q k more p zero none e = cc
place_on Pop q k more p (suc n) none e = asked_on (suc n) k more p none e
place_on Set q k more p n none e = cc
place_on Add q k more p n none e = cc
place_on TestWord q k more p n none e = cc
place_on Take q k more p n none e = cc
place_on Put q k more p n none e = cc
place_on Remove q k more p n none e = cc
place_on Has q k more p n none e = cc
place_on Len q k more p n none e = cc
place_on Next q k more p n none e = cc
place_on Count q k more p n none e = cc
place_on Scan q k more p n none e = cc
place_on Push q k more p n none e = cc

place_off : (o : Operation) (q : Option ℕ) (k more : Known) (n : ℕ) → IsWithin k more → place_need o q k n ≡ None → place_need o q more n ≡ None
place_off Get (Some i) k more n w e = elim (cases_Bool (nat_lt i n)) [
  | inl hit ↦ rw hit ((asked_off (suc i) k more w (rw hit at e)).0)
  | inr miss ↦ rw miss refl
]
place_off Get None k more n w e = refl
place_off Pop q k more zero w e = refl
place_off Pop q k more (suc n) w e = (asked_off (suc n) k more w e).0
place_off Set q k more n w e = refl
place_off Add q k more n w e = refl
place_off TestWord q k more n w e = refl
place_off Take q k more n w e = refl
place_off Put q k more n w e = refl
place_off Remove q k more n w e = refl
place_off Has q k more n w e = refl
place_off Len q k more n w e = refl
place_off Next q k more n w e = refl
place_off Count q k more n w e = refl
place_off Scan q k more n w e = refl
place_off Push q k more n w e = refl

sized_on : (o : Operation) (q : Option ℕ) (k more : Known) (p : ℕ) → IsWithin k more → more p ≡ None → after_size (size_known k) (place_need o q k) ≡ Some p
    → after_size (size_known more) (place_need o q more) ≡ Some p
sized_on o q k more p w none e = elim (by_known (k 0)) [
  | inl unknown ↦
      let it : Some 0 ≡ Some p = rw unknown at e in
      let here : more 0 ≡ None = ap more (same_part 0 p it) ∙ none in rw here it
  | inr known ↦
      let on : place_need o q k (size_of (slice_index_or known.0 0 (pos 0))) ≡ Some p = rw known.1 at e in
      rw (w 0 known.0 known.1) (place_on o q k more p (size_of (slice_index_or known.0 0 (pos 0))) none on)
]

sized_off : (o : Operation) (q : Option ℕ) (k more : Known) → IsWithin k more → after_size (size_known k) (place_need o q k) ≡ None
    → (after_size (size_known more) (place_need o q more) ≡ None) × (size_known more ≡ size_known k)
sized_off o q k more w e = elim (by_known (k 0)) [
  | inl unknown ↦ let no : Some 0 ≡ None = rw unknown at e in no_part 0 no
  | inr known ↦
      let on : place_need o q k (size_of (slice_index_or known.0 0 (pos 0))) ≡ None = rw known.1 at e in
      rw (w 0 known.0 known.1, known.1) (place_off o q k more (size_of (slice_index_or known.0 0 (pos 0))) w on, refl)
]

vector_on : (o : Operation) (q : Option ℕ) (k more : Known) (p : ℕ) → IsWithin k more → more p ≡ None → vector_need o q k ≡ Some p → vector_need o q more ≡ Some p
vector_on Get None k more p w none e = cc
vector_on Get (Some i) k more p w none e = sized_on Get (Some i) k more p w none e
vector_on Set q k more p w none e = sized_on Set q k more p w none e
vector_on Add q k more p w none e = sized_on Add q k more p w none e
vector_on TestWord q k more p w none e = sized_on TestWord q k more p w none e
vector_on Take q k more p w none e = sized_on Take q k more p w none e
vector_on Put q k more p w none e = sized_on Put q k more p w none e
vector_on Remove q k more p w none e = sized_on Remove q k more p w none e
vector_on Has q k more p w none e = sized_on Has q k more p w none e
vector_on Len q k more p w none e = sized_on Len q k more p w none e
vector_on Next q k more p w none e = sized_on Next q k more p w none e
vector_on Count q k more p w none e = sized_on Count q k more p w none e
vector_on Scan q k more p w none e = sized_on Scan q k more p w none e
vector_on Push q k more p w none e = sized_on Push q k more p w none e
vector_on Pop q k more p w none e = sized_on Pop q k more p w none e

vector_off : (capacity : ℕ) (o : Operation) (q : Option ℕ) (a b : ℤ) (k more : Known) → IsWithin k more → vector_need o q k ≡ None
    → (vector_need o q more ≡ None) × (vector_items capacity o q a b (unwrap_or (size_known more) 0) ≡ vector_items capacity o q a b (unwrap_or (size_known k) 0))
vector_off capacity Get None a b k more w e = (refl, refl)
vector_off capacity Get (Some i) a b k more w e = let it = sized_off Get (Some i) k more w e in (it.0, ap (λ (x : Option ℕ). vector_items capacity Get (Some i) a b (unwrap_or x 0)) it.1)
vector_off capacity Set q a b k more w e = let it = sized_off Set q k more w e in (it.0, ap (λ (x : Option ℕ). vector_items capacity Set q a b (unwrap_or x 0)) it.1)
vector_off capacity Add q a b k more w e = let it = sized_off Add q k more w e in (it.0, ap (λ (x : Option ℕ). vector_items capacity Add q a b (unwrap_or x 0)) it.1)
vector_off capacity TestWord q a b k more w e = let it = sized_off TestWord q k more w e in (it.0, ap (λ (x : Option ℕ). vector_items capacity TestWord q a b (unwrap_or x 0)) it.1)
vector_off capacity Take q a b k more w e = let it = sized_off Take q k more w e in (it.0, ap (λ (x : Option ℕ). vector_items capacity Take q a b (unwrap_or x 0)) it.1)
vector_off capacity Put q a b k more w e = let it = sized_off Put q k more w e in (it.0, ap (λ (x : Option ℕ). vector_items capacity Put q a b (unwrap_or x 0)) it.1)
vector_off capacity Remove q a b k more w e = let it = sized_off Remove q k more w e in (it.0, ap (λ (x : Option ℕ). vector_items capacity Remove q a b (unwrap_or x 0)) it.1)
vector_off capacity Has q a b k more w e = let it = sized_off Has q k more w e in (it.0, ap (λ (x : Option ℕ). vector_items capacity Has q a b (unwrap_or x 0)) it.1)
vector_off capacity Len q a b k more w e = let it = sized_off Len q k more w e in (it.0, ap (λ (x : Option ℕ). vector_items capacity Len q a b (unwrap_or x 0)) it.1)
vector_off capacity Next q a b k more w e = let it = sized_off Next q k more w e in (it.0, ap (λ (x : Option ℕ). vector_items capacity Next q a b (unwrap_or x 0)) it.1)
vector_off capacity Count q a b k more w e = let it = sized_off Count q k more w e in (it.0, ap (λ (x : Option ℕ). vector_items capacity Count q a b (unwrap_or x 0)) it.1)
vector_off capacity Scan q a b k more w e = let it = sized_off Scan q k more w e in (it.0, ap (λ (x : Option ℕ). vector_items capacity Scan q a b (unwrap_or x 0)) it.1)
vector_off capacity Push q a b k more w e = let it = sized_off Push q k more w e in (it.0, ap (λ (x : Option ℕ). vector_items capacity Push q a b (unwrap_or x 0)) it.1)
vector_off capacity Pop q a b k more w e = let it = sized_off Pop q k more w e in (it.0, ap (λ (x : Option ℕ). vector_items capacity Pop q a b (unwrap_or x 0)) it.1)

pub vector_steady : (capacity : ℕ) → IsSteady (vector_meaning capacity)
vector_steady capacity = record {
  steady = λ call k more p w none e. vector_on call.operation (place_of capacity call.a) k more p w none e;
  done = λ call k more w e. vector_off capacity call.operation (place_of capacity call.a) call.a call.b k more w e;
}
