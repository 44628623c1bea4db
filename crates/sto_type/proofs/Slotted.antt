-- What is known by places.
use Rattle.std.proofs.Common.{◌≡◌, ◌<◌, ◌≤◌, ◌+◌, ℕ, ℤ, zero, suc, false, nat_eq, if◌then◌else◌, Option, Some, None, List, [], ◌∷◌, ◌++◌, length, map, take, refl, arith, slice_set, subst, inl, inr, ap, ◌∙◌, sym, eqb-true, Result, Ok, Err, OnErr}
use Rattle.std.specs.List.{slice_get}
use Rattle.std.specs.Option.{option_map}
use Rattle.std.proofs.lemmas.Bool.{cases_Bool}
use Rattle.std.proofs.lemmas.Bool.Decides.{nat_tests}
use Rattle.sto_part.specs.Listed.{Listed}
use Rattle.sto_type.specs.Known.{known, learnt}
use Rattle.sto_type.specs.Cached.{plain_part, place_in}

some_same : {A : Type 0} (x y : A) → Some x ≡ Some y → x ≡ y
some_same x y e = cc

-- what a place tells of its part
pub record IsPlaceOf (ks : List (ℕ × List ℤ)) (p i : ℕ) : Type 0 where
  pub within : i < length ks
  pub words : (x : ℕ × List ℤ) → slice_get ks i ≡ Some x → known ks p ≡ Some x.1
  pub known_set : (ws : List ℤ) (q : ℕ) → known (slice_set ks i (p, ws)) q ≡ learnt (known ks) p ws q
  pub places_set : (ws : List ℤ) (j q : ℕ) → place_in j (slice_set ks i (p, ws)) q ≡ place_in j ks q

place_at' : (j : ℕ) (ks : List (ℕ × List ℤ)) (p k : ℕ) → place_in j ks p ≡ Some k → (i : ℕ) × (k ≡ j + i) × IsPlaceOf ks p i
place_at' j [] p k e = cc
place_at' j (s ∷ ss) p k e = elim (cases_Bool (nat_eq s.0 p)) [
  | inl hit ↦
      let here : j ≡ k = some_same j k (rw hit at e) in
      let same : s.0 ≡ p = eqb-true s.0 p hit in (
        0,
        omega (arith, here),
        record {
          within = omega arith;
          words = λ x is. rw hit (ap (λ (y : ℕ × List ℤ). Some y.1) (some_same s x is));
          known_set = λ ws q. again s.0 p q ws ss same;
          places_set = λ ws m q. ap (λ (n : ℕ). if nat_eq n q then Some m else place_in (suc m) ss q) (sym same);
        },
      )
  | inr miss ↦
      let more = place_at' (suc j) ss p k (rw miss at e) in (
        suc more.0,
        omega (arith, more.1),
        record {
          within = omega (arith, more.2.within);
          words = λ x is. rw miss (more.2.words x is);
          known_set = λ ws q. later s.0 p q s.1 ws ss (slice_set ss more.0 (p, ws)) miss (more.2.known_set ws q);
          places_set = λ ws m q. ap (λ (o : Option ℕ). if nat_eq s.0 q then Some m else o) (more.2.places_set ws (suc m) q);
        },
      )
]
  where
    again : (a b q : ℕ) (ws : List ℤ) (ss : List (ℕ × List ℤ)) → a ≡ b → (if nat_eq b q then Some ws else known ss q) ≡ (if nat_eq b q then Some ws else (if nat_eq a q then Some s.1 else known ss q))
    again a b q ws ss same = elim (cases_Bool (nat_eq b q)) [
      | inl here ↦ rw here refl
      | inr there ↦ let too : nat_eq a q ≡ false = ap (λ (n : ℕ). nat_eq n q) same ∙ there in rw (there, too) refl
    ]

    later :
        (a b q : ℕ) (old ws : List ℤ) (ss ts : List (ℕ × List ℤ)) → nat_eq a b ≡ false → known ts q ≡ (if nat_eq b q then Some ws else known ss q)
        → (if nat_eq a q then Some old else known ts q) ≡ (if nat_eq b q then Some ws else (if nat_eq a q then Some old else known ss q))
    later a b q old ws ss ts apart is = elim (cases_Bool (nat_eq a q)) [
      | inl here ↦
          let same : a ≡ q = eqb-true a q here in
          let other : nat_eq b q ≡ false = grind (arith, nat_tests) in rw (here, other) refl
      | inr there ↦ rw there is
    ]

pub place_of : (ks : List (ℕ × List ℤ)) (p k : ℕ) → place_in 0 ks p ≡ Some k → IsPlaceOf ks p k
place_of ks p k e =
    let h = place_at' 0 ks p k e in
    let same : h.0 ≡ k = omega (arith, h.1) in
    subst (λ (i : ℕ). IsPlaceOf ks p i) same h.2

no_place : (j : ℕ) (ks : List (ℕ × List ℤ)) (p : ℕ) → place_in j ks p ≡ None → known ks p ≡ None
no_place j [] p e = refl
no_place j (s ∷ ss) p e = elim (cases_Bool (nat_eq s.0 p)) [
  | inl hit ↦ let clash : Some j ≡ None = rw hit at e in cc
  | inr miss ↦ rw miss (no_place (suc j) ss p (rw miss at e))
]

pub unknown : (ks : List (ℕ × List ℤ)) (p : ℕ) → place_in 0 ks p ≡ None → known ks p ≡ None
unknown ks p e = no_place 0 ks p e

-- one more part, which was not known
pub known_more : (ks : List (ℕ × List ℤ)) (p : ℕ) (ws : List ℤ) (q : ℕ) → known ks p ≡ None → known (ks ++ (p, ws) ∷ []) q ≡ learnt (known ks) p ws q
known_more [] p ws q none = refl
known_more (s ∷ ss) p ws q none = elim (cases_Bool (nat_eq s.0 p)) [
  | inl hit ↦ let clash : Some s.1 ≡ None = rw hit at none in cc
  | inr miss ↦ elim (cases_Bool (nat_eq s.0 q)) [
    | inl here ↦
        let same : s.0 ≡ q = eqb-true s.0 q here in
        let other : nat_eq p q ≡ false = grind (arith, nat_tests) in rw (here, other) refl
    | inr there ↦ rw there (known_more ss p ws q (rw miss at none))
  ]
]

places_more : (ks : List (ℕ × List ℤ)) (p : ℕ) (ws : List ℤ) (j q : ℕ) → known ks p ≡ None → place_in j (ks ++ (p, ws) ∷ []) q ≡ (if nat_eq p q then Some (j + length ks) else place_in j ks q)
places_more [] p ws j q none = let same : j + 0 ≡ j = omega arith in rw same refl
places_more (s ∷ ss) p ws j q none = elim (cases_Bool (nat_eq s.0 p)) [
  | inl hit ↦ let clash : Some s.1 ≡ None = rw hit at none in cc
  | inr miss ↦ elim (cases_Bool (nat_eq s.0 q)) [
    | inl here ↦
        let same : s.0 ≡ q = eqb-true s.0 q here in
        let other : nat_eq p q ≡ false = grind (arith, nat_tests) in rw (here, other) refl
    | inr there ↦ let count : suc j + length ss ≡ j + suc (length ss) = omega arith in rw there (places_more ss p ws (suc j) q (rw miss at none) ∙ ap (λ (n : ℕ). if nat_eq p q then Some n else place_in (suc j) ss q) count)
  ]
]

pub place_more : (ks : List (ℕ × List ℤ)) (p : ℕ) (ws : List ℤ) (q : ℕ) → known ks p ≡ None → place_in 0 (ks ++ (p, ws) ∷ []) q ≡ (if nat_eq p q then Some (length ks) else place_in 0 ks q)
place_more ks p ws q none = let same : 0 + length ks ≡ length ks = omega arith in places_more ks p ws 0 q none ∙ ap (λ (n : ℕ). if nat_eq p q then Some n else place_in 0 ks q) same

-- the slot at a place
pub slot_at : (xs : List (ℕ × Listed ℤ)) (n i : ℕ) (x : ℕ × Listed ℤ) → i < length (take n (map plain_part xs)) → slice_get xs i ≡ Some x → slice_get (take n (map plain_part xs)) i ≡ Some (plain_part x)
slot_at xs zero i x within is = absurd (omega (arith, within))
slot_at [] (suc n) i x within is = cc
slot_at (y ∷ xs) (suc n) zero x within is = ap (λ (o : Option (ℕ × Listed ℤ)). option_map plain_part o) is
slot_at (y ∷ xs) (suc n) (suc i) x within is = slot_at xs n i x (omega (arith, within)) is

pub slot_within : (xs : List (ℕ × Listed ℤ)) (n i : ℕ) → i < length (take n (map plain_part xs)) → i < length xs
slot_within xs zero i within = absurd (omega (arith, within))
slot_within [] (suc n) i within = absurd (omega (arith, within))
slot_within (y ∷ xs) (suc n) zero within = omega arith
slot_within (y ∷ xs) (suc n) (suc i) within = let one : i < length xs = slot_within xs n i (omega (arith, within)) in omega (arith, one)

-- the front of a list with an item of it set
pub set_front : {X : Type 0} (xs : List X) (n i : ℕ) (x : X) → i < length (take n xs) → take n (slice_set xs i x) ≡ slice_set (take n xs) i x
set_front xs zero i x within = absurd (omega (arith, within))
set_front [] (suc n) i x within = absurd (omega (arith, within))
set_front (y ∷ xs) (suc n) zero x within = refl
set_front (y ∷ xs) (suc n) (suc i) x within = ap (λ l. y ∷ l) (set_front xs n i x (omega (arith, within)))

pub set_next : {X : Type 0} (xs : List X) (n : ℕ) (x : X) → n < length xs → take (suc n) (slice_set xs n x) ≡ take n xs ++ x ∷ []
set_next [] n x within = absurd (omega (arith, within))
set_next (y ∷ xs) zero x within = refl
set_next (y ∷ xs) (suc n) x within = ap (λ l. y ∷ l) (set_next xs n x (omega (arith, within)))

pub set_plain : (xs : List (ℕ × Listed ℤ)) (i : ℕ) (x : ℕ × Listed ℤ) → map plain_part (slice_set xs i x) ≡ slice_set (map plain_part xs) i (plain_part x)
set_plain [] i x = refl
set_plain (y ∷ xs) zero x = refl
set_plain (y ∷ xs) (suc i) x = ap (λ l. plain_part y ∷ l) (set_plain xs i x)

pub set_same : (xs : List (ℕ × Listed ℤ)) (i : ℕ) (x y : ℕ × Listed ℤ) → slice_get xs i ≡ Some x → plain_part y ≡ plain_part x → map plain_part (slice_set xs i y) ≡ map plain_part xs
set_same [] i x y is same = refl
set_same (z ∷ xs) zero x y is same = ap (λ k. k ∷ map plain_part xs) (same ∙ sym (ap plain_part (some_same z x is)))
set_same (z ∷ xs) (suc i) x y is same = ap (λ l. plain_part z ∷ l) (set_same xs i x y is same)

pub many_plain : (xs : List (ℕ × Listed ℤ)) → length (map plain_part xs) ≡ length xs
many_plain [] = refl
many_plain (x ∷ xs) = ap suc (many_plain xs)

pub push_next : (xs : List (ℕ × Listed ℤ)) (n : ℕ) (y : ℕ × Listed ℤ) → n ≡ length xs → take (suc n) (map plain_part (xs ++ y ∷ [])) ≡ take n (map plain_part xs) ++ plain_part y ∷ []
push_next [] zero y e = refl
push_next [] (suc n) y e = absurd (omega (arith, e))
push_next (x ∷ xs) zero y e = absurd (omega (arith, e))
push_next (x ∷ xs) (suc n) y e = ap (λ l. plain_part x ∷ l) (push_next xs n y (omega (arith, e)))

pub front_length : {X : Type 0} (xs : List X) (n : ℕ) → n ≤ length xs → length (take n xs) ≡ n
front_length xs zero h = refl
front_length [] (suc n) h = absurd (omega (arith, h))
front_length (x ∷ xs) (suc n) h = ap suc (front_length xs n (omega (arith, h)))

pub on_err : {A B : Type 0} (r : Result A B) (P : Type 0) → P → OnErr r P
on_err (Ok x) P p = tt
on_err (Err e) P p = p
