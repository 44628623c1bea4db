-- The places of a vector among other parts.
use Rattle.std.proofs.Common.{◌≡◌, ◌<◌, ◌≤◌, ◌+◌, ◌^◌, ℕ, zero, suc, ℤ, pos, Some, List, [], ◌∷◌, length, map, replicate, take, drop, slice_get, refl, ap, sym, ◌∙◌, subst, arith}
use Rattle.std.proofs.lemmas.List.{get_or-drop}
use Rattle.sto_part.specs.Parts.{part_of}
use Rattle.sto_type.specs.Known.{Parts, ContentsFit}
use Rattle.sto_array.specs.Arrayed.{IsArray}
use Rattle.sto_vector.specs.Vectored.{IsVector}
use Rattle.sto_vector.specs.VectoredLaw.{sized, apart, small, place_widths}

-- a front of a front
take_less : (n m : ℕ) (xs : Parts) → n ≤ m → take n (take m xs) ≡ take n xs
take_less zero m xs l = refl
take_less (suc n) zero xs l = absurd (omega (arith, l))
take_less (suc n) (suc m) [] l = refl
take_less (suc n) (suc m) (x ∷ xs) l = ap (λ t. x ∷ t) (take_less n m xs (omega (arith, l)))

heads : (x y : ℕ) (xs ys : List ℕ) → x ∷ xs ≡ y ∷ ys → (x ≡ y) × (xs ≡ ys)
heads x y xs ys e = (cc, cc)

widths_take : (n m : ℕ) (xs : Parts) → n ≤ m → map length xs ≡ replicate m 1 → map length (take n xs) ≡ replicate n 1
widths_take zero m xs l e = refl
widths_take (suc n) zero xs l e = absurd (omega (arith, l))
widths_take (suc n) (suc m) [] l e = cc
widths_take (suc n) (suc m) (x ∷ xs) l e =
    let h : (length x ≡ 1) × (map length xs ≡ replicate m 1) = heads (length x) 1 (map length xs) (replicate m 1) e in
    λ i. h.0 i ∷ widths_take n m xs (omega (arith, l)) h.1 i

fits_take : (n : ℕ) (xs : Parts) → ContentsFit xs → ContentsFit (take n xs)
fits_take zero xs h = tt
fits_take (suc n) [] h = tt
fits_take (suc n) (x ∷ xs) h = (h.0, fits_take n xs h.1)

-- a front that begins with a part, and what follows the part
tails : (x y : List ℤ) (xs ys : Parts) → x ∷ xs ≡ y ∷ ys → (x ≡ y) × (xs ≡ ys)
tails x y xs ys e = (cc, cc)

begun : (k : ℕ) (xs : Parts) (x : List ℤ) (rest : Parts) → take (suc k) xs ≡ x ∷ rest → (more : Parts) × (xs ≡ x ∷ more) × (take k more ≡ rest)
begun k [] x rest e = cc
begun k (y ∷ xs) x rest e = let h : (y ≡ x) × (take k xs ≡ rest) = tails y x (take k xs) rest e in (xs, ap (λ (z : List ℤ). z ∷ xs) h.0, h.1)

next : (first : ℕ) (c : Parts) (x : List ℤ) (more : Parts) → drop first c ≡ x ∷ more → drop (first + 1) c ≡ more
next zero [] x more e = cc
next (suc first) [] x more e = cc
next zero (y ∷ c) x more e = (tails y x c more e).1
next (suc first) (y ∷ c) x more e = let n : suc first + 1 ≡ suc (first + 1) = omega arith in ap (λ k. drop k (y ∷ c)) n ∙ next first c x more e

first_is : (ws : List ℤ) (x y : ℤ) → ws ≡ y ∷ [] → slice_get ws 0 ≡ Some x → x ≡ y
first_is [] x y e g = cc
first_is (w ∷ ws) x y e g = cc

pos_is : (m n : ℕ) → pos m ≡ pos n → m ≡ n
pos_is m n e = cc

module _ (capacity first : ℕ) (c : Parts) (v : IsVector capacity (take (suc capacity) (drop first c))) (few : 1 + capacity < 2 ^ 32) where
  abbrev it : (n : ℕ) × (places : Parts) × (take (suc capacity) (drop first c) ≡ sized n places)
  it = apart capacity (take (suc capacity) (drop first c)) v

  valid : IsVector capacity (sized it.0 it.1)
  valid = subst (IsVector capacity) it.2 v

  after : (more : Parts) × (drop first c ≡ (pos it.0 ∷ []) ∷ more) × (take capacity more ≡ it.1)
  after = begun capacity (drop first c) (pos it.0 ∷ []) it.1 it.2

  size_part : part_of c first ≡ pos it.0 ∷ []
  size_part =
      let z : first + 0 ≡ first = omega arith in
      ap (part_of c) (sym z) ∙ sym (get_or-drop first c 0 []) ∙ ap (λ (l : Parts). part_of l 0) after.1

  small_size : it.0 ≤ capacity
  small_size = small capacity few it.0 it.1 valid

  module _ (x : ℤ) (at : slice_get (part_of c first) 0 ≡ Some x) where
    word_is : x ≡ pos it.0
    word_is = first_is (part_of c first) x (pos it.0) size_part at

    module _ (size : ℕ) (is : pos size ≡ x) where
      size_is : size ≡ it.0
      size_is = pos_is size it.0 (is ∙ word_is)

      places_are : drop (first + 1) c ≡ after.0
      places_are = next first c (pos it.0 ∷ []) after.0 after.1

      front_is : take it.0 after.0 ≡ take it.0 it.1
      front_is = sym (take_less it.0 capacity after.0 small_size) ∙ ap (take it.0) after.2

      places_front : take size (drop (first + 1) c) ≡ take it.0 it.1
      places_front = ap (λ (n : ℕ). take n (drop (first + 1) c)) size_is ∙ ap (take it.0) places_are ∙ front_is

      pub are_places : IsArray size (take size (drop (first + 1) c))
      are_places =
          let made : IsArray it.0 (take it.0 it.1) =
          record { widths = widths_take it.0 capacity it.1 small_size (place_widths capacity few it.0 it.1 valid); fits = fits_take it.0 it.1 valid.fits.1 } in
          subst (λ (n : ℕ). IsArray n (take size (drop (first + 1) c))) (sym size_is) (subst (IsArray it.0) (sym places_front) made)
