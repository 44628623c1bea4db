-- Where a row stands among rows in rising key order, found by halving.
use Rattle.std.proofs.Common.{◌≡◌, ℕ, zero, suc, ℤ, pos, ◌<◌, ◌≤◌, ◌<ℤ◌, None, Some, List, [], ◌∷◌, length, slice_index_or, sym, refl, ap, ◌∙◌, arith, true, false, int_lt}
use Rattle.std.proofs.lemmas.Int.{ints}
use Rattle.std.proofs.lemmas.List.Sums.{prefix_len_is}
use Rattle.std.proofs.lemmas.List.Folds.{length-prefix_len}
use Rattle.std.specs.List.Sorted.{IsPartitionedBy, IsPartitionPoint}
use Rattle.std.specs.Ordering.{int_eq}
use Rattle.sto_model.specs.Rows.{Row, RisesFrom, IsRising, value_at, place_of}
use Rattle.sto_model.proofs.RowFacts.{IsRising-of, above_of, by_test, equal_of, not_equal_of, place_of-below, place_of-here}

-- a row that follows has a greater key
rises_to : (r : Row) (xs : List Row) (j : ℕ) (d : Row) → RisesFrom r xs → j < length xs → r.0 <ℤ (slice_index_or xs j d).0
rises_to r [] j d h l = absurd (omega (arith, l))
rises_to r (s ∷ xs) zero d h l = h.0
rises_to r (s ∷ xs) (suc j) d h l = let next : s.0 <ℤ (slice_index_or xs j d).0 = rises_to s xs j d h.1 (omega (arith, l)) in grind (arith, ints, h.0, next)

before_all : (a b k : ℤ) → a <ℤ b → int_lt b k ≡ true → int_lt a k ≡ true
before_all a b k l e = grind (arith, ints, l, e)

-- rows below a key stand before all others
pub parted : (xs : List Row) (k : ℤ) → IsRising xs → IsPartitionedBy (λ (r : Row). int_lt r.0 k) xs
parted [] k h i j d le l e = absurd (omega (arith, l))
parted (r ∷ xs) k h zero zero d le l e = e
parted (r ∷ xs) k h zero (suc j) d le l e = before_all r.0 (slice_index_or xs j d).0 k (rises_to r xs j d h (omega (arith, l))) e
parted (r ∷ xs) k h (suc i) zero d le l e = absurd (omega (arith, le))
parted (r ∷ xs) k h (suc i) (suc j) d le l e = parted xs k (IsRising-of r xs h) i j d (omega (arith, le)) (omega (arith, l)) e

-- the place that halving finds
pub found_place :
    (xs : List Row) (k : ℤ) (i : ℕ) → i ≤ length xs
    → IsPartitionPoint (λ (r : Row). int_lt r.0 k ≡ true) (λ r. int_lt r.0 k ≡ false) xs i → i ≡ place_of xs k
found_place xs k i few point = sym (length-prefix_len (λ (r : Row). int_lt r.0 k) xs ∙ prefix_len_is (λ (r : Row). int_lt r.0 k) xs i (pos 0, pos 0) few (λ j l. point.0 j (pos 0, pos 0) (omega arith) l) (λ l. point.1 i (pos 0, pos 0) (omega arith) l))

value_at-here : (s : Row) (xs : List Row) (k : ℤ) → int_eq s.0 k ≡ true → value_at (s ∷ xs) k ≡ Some s.1
value_at-here s xs k e = rw e refl

value_at-past : (s : Row) (xs : List Row) (k : ℤ) → int_eq s.0 k ≡ false → value_at (s ∷ xs) k ≡ value_at xs k
value_at-past s xs k e = rw e refl

before_is_other : (a k : ℤ) → int_lt a k ≡ true → int_eq a k ≡ false
before_is_other a k e = grind (arith, ints, e)

past_is_other : (a b k : ℤ) → k <ℤ a → a <ℤ b → int_eq b k ≡ false
past_is_other a b k l h = grind (arith, ints, l, h)

-- above the place of a key there is no row of it
none_above : (s : Row) (xs : List Row) (k : ℤ) → k <ℤ s.0 → RisesFrom s xs → value_at xs k ≡ None
none_above s [] k l h = refl
none_above s (x ∷ xs) k l h = value_at-past x xs k (past_is_other s.0 x.0 k l h.0) ∙ none_above x xs k (grind (arith, ints, l, h.0)) h.1

-- the value at a key whose row stands at its place
pub value_there : (xs : List Row) (k : ℤ) (d : Row) → place_of xs k < length xs → (slice_index_or xs (place_of xs k) d).0 ≡ k → value_at xs k ≡ Some (slice_index_or xs (place_of xs k) d).1
value_there [] k d l e = absurd (omega (arith, l))
value_there (s ∷ xs) k d l e =
    by_test (int_lt s.0 k)
    (λ t.
    let place : place_of (s ∷ xs) k ≡ suc (place_of xs k) = place_of-below s xs k t in
    let same : slice_index_or (s ∷ xs) (place_of (s ∷ xs) k) d ≡ slice_index_or xs (place_of xs k) d = ap (λ n. slice_index_or (s ∷ xs) n d) place in
    value_at-past s xs k (before_is_other s.0 k t)
    ∙ (value_there xs k d (omega (arith, l, place)) (sym (ap (λ (r : Row). r.0) same) ∙ e) ∙ sym (ap (λ (r : Row). Some r.1) same)))
    (λ t.
    let same : slice_index_or (s ∷ xs) (place_of (s ∷ xs) k) d ≡ s = ap (λ n. slice_index_or (s ∷ xs) n d) (place_of-here s xs k t) in
    value_at-here s xs k (equal_of s.0 k (sym (ap (λ (r : Row). r.0) same) ∙ e)) ∙ sym (ap (λ (r : Row). Some r.1) same))

-- no value at a key of which no row stands at its place
pub value_nowhere : (xs : List Row) (k : ℤ) (d : Row) → IsRising xs → (place_of xs k < length xs → (slice_index_or xs (place_of xs k) d).0 ≡ k → ⊥) → value_at xs k ≡ None
value_nowhere [] k d h other = refl
value_nowhere (s ∷ xs) k d h other =
    by_test (int_lt s.0 k)
    (λ t.
    let place : place_of (s ∷ xs) k ≡ suc (place_of xs k) = place_of-below s xs k t in
    let same : slice_index_or (s ∷ xs) (place_of (s ∷ xs) k) d ≡ slice_index_or xs (place_of xs k) d = ap (λ n. slice_index_or (s ∷ xs) n d) place in
    value_at-past s xs k (before_is_other s.0 k t)
    ∙ value_nowhere xs k d (IsRising-of s xs h) (λ l e. other (omega (arith, l, place)) (ap (λ (r : Row). r.0) same ∙ e)))
    (λ t.
    let place : place_of (s ∷ xs) k ≡ 0 = place_of-here s xs k t in
    let same : slice_index_or (s ∷ xs) (place_of (s ∷ xs) k) d ≡ s = ap (λ n. slice_index_or (s ∷ xs) n d) place in
    let new : s.0 ≡ k → ⊥ = λ e. other (omega (arith, place)) (ap (λ (r : Row). r.0) same ∙ e) in
    let past : int_eq s.0 k ≡ false = not_equal_of s.0 k new in
    value_at-past s xs k past ∙ none_above s xs k (above_of s.0 k t past) h)
