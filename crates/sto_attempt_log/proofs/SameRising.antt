-- Strictly rising part numbers that are the same are one list.
use Rattle.std.specs.Prelude.{Option, Some, None, ◌↔◌}
use Rattle.std.specs.List.{Contains, slice_index}
use Rattle.std.specs.List.Sorted.{IsStrictlyIncreasing}
use Rattle.std.proofs.Common.{◌≡◌, ◌<◌, ◌+◌, ◌⊎◌, ℕ, zero, suc, List, [], ◌∷◌, length, map, slice_index_or, refl, ap, sym, ◌∙◌, subst, arith, inl, inr}
use Rattle.sto_core.specs.Allowed.{Rises, RisesFrom}

abbrev In : ℕ → List ℕ → Type 0
In p [] = ⊥
In p (x ∷ xs) = (x ≡ p) ⊎ In p xs

next : (k : ℕ) → suc k + 1 ≡ suc (k + 1)
next k = omega arith

rises_from : (x : ℕ) (xs : List ℕ) → IsStrictlyIncreasing (x ∷ xs) → RisesFrom x xs
rises_from x [] h = tt
rises_from x (y ∷ ys) h = (h 0 (omega arith), rises_from y ys (λ k l. subst (λ (n : ℕ). slice_index (y ∷ ys) k < slice_index (x ∷ y ∷ ys) n) (next k) (h (suc k) (omega (arith, l)))))

pub rises_of : (xs : List ℕ) → IsStrictlyIncreasing xs → Rises xs
rises_of [] h = tt
rises_of (x ∷ xs) h = rises_from x xs h

above : (n p : ℕ) (xs : List ℕ) → RisesFrom n xs → In p xs → n < p
above n p [] r i = absurd i
above n p (x ∷ xs) r i = elim i [
  | inl e ↦ omega (arith, r.0, e)
  | inr there ↦ omega (arith, r.0, above x p xs r.1 there)
]

module _ (x y : ℕ) (xs ys : List ℕ) (r : RisesFrom x xs) (f : (p : ℕ) → In p (x ∷ xs) → In p (y ∷ ys)) where
  first_is : RisesFrom y ys → ((p : ℕ) → In p (y ∷ ys) → In p (x ∷ xs)) → x ≡ y
  first_is s g = elim (f x (inl refl)) [
    | inl e ↦ sym e
    | inr there ↦ elim (g y (inl refl)) [
      | inl e ↦ e
      | inr too ↦ absurd (omega (arith, above y x ys s there, above x y xs r too))
    ]
  ]

  rest_in : x ≡ y → (p : ℕ) → In p xs → In p ys
  rest_in same p i = elim (f p (inr i)) [
    | inl e ↦ absurd (omega (arith, above x p xs r i, e, same))
    | inr there ↦ there
  ]

same_from : (a b : ℕ) (xs ys : List ℕ) → RisesFrom a xs → RisesFrom b ys → ((p : ℕ) → In p xs → In p ys) → ((p : ℕ) → In p ys → In p xs) → xs ≡ ys
same_from a b [] [] r s f g = refl
same_from a b [] (y ∷ ys) r s f g = absurd (g y (inl refl))
same_from a b (x ∷ xs) [] r s f g = absurd (f x (inl refl))
same_from a b (x ∷ xs) (y ∷ ys) r s f g =
    let e : x ≡ y = first_is x y xs ys r.1 f s.1 g in
    let rest : xs ≡ ys = same_from x y xs ys r.1 s.1 (rest_in x y xs ys r.1 f e) (rest_in y x ys xs s.1 g (sym e)) in
    λ i. e i ∷ rest i

in_at : (p i : ℕ) (xs : List ℕ) → i < length xs → slice_index_or xs i p ≡ p → In p xs
in_at p i [] l e = absurd (omega (arith, l))
in_at p zero (x ∷ xs) l e = inl e
in_at p (suc i) (x ∷ xs) l e = inr (in_at p i xs (omega (arith, l)) e)

at_in : (p : ℕ) (xs : List ℕ) → In p xs → Contains xs p
at_in p [] h = absurd h
at_in p (x ∷ xs) h = elim h [
  | inl e ↦ (0, omega arith, e)
  | inr there ↦ let it = at_in p xs there in (suc it.0, omega (arith, it.1), it.2)
]

-- strictly rising part numbers that are the same are one list
pub same_rising : (xs ys : List ℕ) → Rises xs → Rises ys → ((p : ℕ) → Contains xs p → Contains ys p) → ((p : ℕ) → Contains ys p → Contains xs p) → xs ≡ ys
same_rising [] [] r s f g = refl
same_rising [] (y ∷ ys) r s f g = absurd (let it = g y (0, omega arith, refl) in omega (arith, it.1))
same_rising (x ∷ xs) [] r s f g = absurd (let it = f x (0, omega arith, refl) in omega (arith, it.1))
same_rising (x ∷ xs) (y ∷ ys) r s f g =
    let one : (p : ℕ) → In p (x ∷ xs) → In p (y ∷ ys) = λ p h. let it = f p (at_in p (x ∷ xs) h) in in_at p it.0 (y ∷ ys) it.1 it.2 in
    let two : (p : ℕ) → In p (y ∷ ys) → In p (x ∷ xs) = λ p h. let it = g p (at_in p (y ∷ ys) h) in in_at p it.0 (x ∷ xs) it.1 it.2 in
    let e : x ≡ y = first_is x y xs ys r one s two in
    let rest : xs ≡ ys = same_from x y xs ys r s (rest_in x y xs ys r one e) (rest_in y x ys xs s two (sym e)) in
    λ i. e i ∷ rest i
