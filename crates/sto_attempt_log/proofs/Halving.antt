-- What a list that rises by a number of its elements tells where it is halved.
use Rattle.std.proofs.Common.{◌≡◌, ◌<◌, ◌≤◌, ℕ, zero, suc, true, false, ltb, nat_eq, nat_lt, List, [], ◌∷◌, length, refl, ap, sym, ◌∙◌, arith, slice_index_or, eq-eqb, eqb-true, inl, inr}
use Rattle.std.specs.List.{list_any}
use Rattle.std.specs.List.Sorted.{IsNonDecreasingBy, IsPartitionPoint}
use Rattle.std.proofs.lemmas.Bool.{cases_Bool, cases_lt}
use Rattle.std.proofs.lemmas.List.{get_or_default}
use Rattle.std.proofs.lemmas.Bool.Decides.{nat_tests}

module _ {X : Type 0} (n : X → ℕ) (p : ℕ) where
  any_there : (xs : List X) (i : ℕ) (d : X) → i < length xs → n (slice_index_or xs i d) ≡ p → list_any (λ x. nat_eq (n x) p) xs ≡ true
  any_there [] i d h e = absurd (omega (arith, h))
  any_there (x ∷ xs) zero d h e = let same : nat_eq (n x) p ≡ true = eq-eqb (n x) p e in rw same refl
  any_there (x ∷ xs) (suc i) d h e = elim (cases_Bool (nat_eq (n x) p)) [
    | inl hit ↦ rw hit refl
    | inr miss ↦ rw miss (any_there xs i d (omega (arith, h)) e)
  ]

  any_nowhere : (xs : List X) → ((k : ℕ) (d : X) → k < length xs → nat_eq (n (slice_index_or xs k d)) p ≡ false) → list_any (λ x. nat_eq (n x) p) xs ≡ false
  any_nowhere [] other = refl
  any_nowhere (x ∷ xs) other = let here : nat_eq (n x) p ≡ false = other 0 x (omega arith) in rw here (any_nowhere xs (λ k d h. other (suc k) d (omega (arith, h))))

  -- where those below the number end
  module _ (xs : List X) (rise : IsNonDecreasingBy n xs) (i : ℕ) (point : IsPartitionPoint (λ y. ltb (n y) p ≡ true) (λ y. ltb (n y) p ≡ false) xs i) where
    other_below : (k : ℕ) (d : X) → k < i → nat_eq (n (slice_index_or xs k d)) p ≡ false
    other_below k d h = let low : ltb (n (slice_index_or xs k d)) p ≡ true = point.0 k d (omega arith) h in grind (arith, nat_tests)

    other_above : (k : ℕ) (d : X) → i ≤ k → k < length xs → nat_eq (n (slice_index_or xs i d)) p ≡ false → nat_eq (n (slice_index_or xs k d)) p ≡ false
    other_above k d l h e =
        let high : ltb (n (slice_index_or xs i d)) p ≡ false = point.1 i d (omega arith) (omega (arith, l, h)) in
        let more : n (slice_index_or xs i d) ≤ n (slice_index_or xs k d) = rise i k d l h in
        grind (arith, nat_tests)

    -- one has the number exactly where the first of the others has it
    pub any_here : (d : X) → i < length xs → nat_eq (n (slice_index_or xs i d)) p ≡ list_any (λ x. nat_eq (n x) p) xs
    any_here d h = elim (cases_Bool (nat_eq (n (slice_index_or xs i d)) p)) [
      | inl hit ↦ hit ∙ sym (any_there xs i d h (eqb-true (n (slice_index_or xs i d)) p hit))
      | inr miss ↦ miss ∙ sym (any_nowhere xs (λ k e l. elim (cases_lt k i) [
        | inl low ↦ other_below k e low
        | inr high ↦ other_above k e high l (ap (λ x. nat_eq (n x) p) (get_or_default xs i e d h) ∙ miss)
      ]))
    ]

    pub none_here : length xs ≤ i → nat_lt i (length xs) ≡ list_any (λ x. nat_eq (n x) p) xs
    none_here h =
        let out : nat_lt i (length xs) ≡ false = grind (arith, nat_tests) in
        out ∙ sym (any_nowhere xs (λ k d l. other_below k d (omega (arith, l, h))))
