-- Each part of a store is at home in its object, and parts are numbered in the order of the objects.
use Rattle.std.specs.Prelude.{take, sum_by, slice_get, slice_index_or}
use Rattle.std.proofs.Common.{◌≡◌, ℕ, zero, suc, ◌+◌, ◌-◌, ◌<◌, List, [], ◌∷◌, ◌++◌, length, map, refl, sym, ap, ◌∙◌, subst, arith, Some, inl, inr, length-append}
use Rattle.std.proofs.lemmas.Bool.{cases_lt}
use Rattle.std.proofs.lemmas.List.Sums.{sum_by-cons}
use Rattle.sto_model.specs.declared.shape.Shape.{Shape}
use Rattle.sto_model.specs.Sizes.{part_count}
use Rattle.sto_type.specs.Meaning.{Meaning}
use Rattle.sto_store.specs.Homes.{homes_within, homes_from, HasParts}
use Rattle.sto_serializability.specs.Meanings.{IsHomeAt}

-- there are as many homes as parts
length_within : (object first count : ℕ) → length (homes_within object first count) ≡ count
length_within object first zero = refl
length_within object first (suc count) = ap suc (length_within object (suc first) count)

at_within : (object first count p : ℕ) (rest : List (ℕ × ℕ)) → p < count → slice_index_or (homes_within object first count ++ rest) p (0, 0) ≡ (object, first + p)
at_within object first zero p rest l = absurd (omega (arith, l))
at_within object first (suc count) zero rest l = let e : first ≡ first + 0 = omega arith in ap (λ (x : ℕ). (object, x)) e
at_within object first (suc count) (suc p) rest l =
    let e : suc first + p ≡ first + suc p = omega arith in
    at_within object (suc first) count p rest (omega (arith, l)) ∙ ap (λ (x : ℕ). (object, x)) e

at_rest : (object first count p : ℕ) (rest : List (ℕ × ℕ)) → slice_index_or (homes_within object first count ++ rest) (count + p) (0, 0) ≡ slice_index_or rest p (0, 0)
at_rest object first zero p rest = let e : 0 + p ≡ p = omega arith in ap (λ (x : ℕ). slice_index_or rest x (0, 0)) e
at_rest object first (suc count) p rest =
    let e : suc count + p ≡ suc (count + p) = omega arith in
    ap (λ (x : ℕ). slice_index_or (homes_within object first (suc count) ++ rest) x (0, 0)) e ∙ at_rest object (suc first) count p rest

-- the home of a part among objects that are numbered from the first on
record IsHomeFrom (first : ℕ) (shapes : List Shape) (p : ℕ) (home : ℕ × ℕ) : Type 0 where
  place : ℕ
  shape : Shape
  numbered : home.0 ≡ first + place
  object : slice_get shapes place ≡ Some shape
  inside : home.1 < part_count shape
  number : p ≡ sum_by part_count (take place shapes) + home.1

home_by : (first : ℕ) (shapes : List Shape) (p : ℕ) → p < length (homes_from first (map part_count shapes)) → IsHomeFrom first shapes p (slice_index_or (homes_from first (map part_count shapes)) p (0, 0))
home_by first [] p l = absurd (omega (arith, l))
home_by first (s ∷ shapes) p l = elim (cases_lt p (part_count s)) [
  | inl here ↦
      let is : slice_index_or (homes_from first (map part_count (s ∷ shapes))) p (0, 0) ≡ (first, 0 + p) = at_within first 0 (part_count s) p (homes_from (suc first) (map part_count shapes)) here in
      subst (IsHomeFrom first (s ∷ shapes) p) (sym is) (record {
        place = 0;
        shape = s;
        numbered = omega arith;
        object = refl;
        inside = omega (arith, here);
        number = omega arith;
      })
  | inr past ↦
      let q : ℕ = p - part_count s in
      let e : p ≡ part_count s + (p - part_count s) = omega (arith, past) in
      let is : slice_index_or (homes_from first (map part_count (s ∷ shapes))) p (0, 0) ≡ slice_index_or (homes_from (suc first) (map part_count shapes)) (p - part_count s) (0, 0) =
      ap (λ (x : ℕ). slice_index_or (homes_from first (map part_count (s ∷ shapes))) x (0, 0)) e ∙ at_rest first 0 (part_count s) (p - part_count s) (homes_from (suc first) (map part_count shapes)) in
      let few = length-append (homes_within first 0 (part_count s)) (homes_from (suc first) (map part_count shapes)) in
      let own = length_within first 0 (part_count s) in
      let rest : IsHomeFrom (suc first) shapes (p - part_count s) (slice_index_or (homes_from (suc first) (map part_count shapes)) (p - part_count s) (0, 0)) =
      home_by (suc first) shapes (p - part_count s) (omega (arith, l, few, own, past)) in
      subst (IsHomeFrom first (s ∷ shapes) p) (sym is) (record {
        place = suc rest.place;
        shape = rest.shape;
        numbered = (let k = rest.numbered in omega (arith, k));
        object = rest.object;
        inside = rest.inside;
        number = (let k = rest.number in let sum = sum_by-cons part_count s (take rest.place shapes) in omega (arith, k, sum, past));
      })
]

-- Each part of a type of objects of these shapes is at home in its object, and is numbered in the order of the objects.
pub homes_are : (shapes : List Shape) (m : Meaning) → HasParts m (map part_count shapes) → (p : ℕ) → p < length m.homes → IsHomeAt shapes p (slice_index_or m.homes p (0, 0))
homes_are shapes m h p l =
    let found : IsHomeFrom 0 shapes p (slice_index_or m.homes p (0, 0)) =
    subst (λ (hs : List (ℕ × ℕ)). IsHomeFrom 0 shapes p (slice_index_or hs p (0, 0))) (sym h.homes) (home_by 0 shapes p (subst (λ (hs : List (ℕ × ℕ)). p < length hs) h.homes l)) in
    let same : (slice_index_or m.homes p (0, 0)).0 ≡ found.place = (let k = found.numbered in omega (arith, k)) in
    record {
      shape = found.shape;
      object = ap (slice_get shapes) same ∙ found.object;
      inside = found.inside;
      number = found.number ∙ ap (λ (x : ℕ). sum_by part_count (take x shapes) + (slice_index_or m.homes p (0, 0)).1) (sym same);
    }
