-- The rows of the first words.
use Rattle.std.proofs.Common.{◌≡◌, ◌<◌, ◌≤◌, ◌+◌, ℕ, zero, suc, ℤ, pos, List, [], ◌∷◌, ◌++◌, length, take, slice_index_or, ap, sym, ◌∙◌, subst, arith}
use Rattle.std.proofs.lemmas.List.{length-take}
use Rattle.sto_model.specs.Rows.{Row, IsRising}
use Rattle.sto_type.specs.Numbered.{numbered, numbered-rises, length-numbered}

taken_from : (j i : ℕ) (xs : List ℤ) → i < length xs → numbered j (take (i + 1) xs) ≡ numbered j (take i xs) ++ (pos (j + i), slice_index_or xs i (pos 0)) ∷ []
taken_from j i [] l = absurd (omega (arith, l))
taken_from j zero (x ∷ xs) l = let e : j + 0 ≡ j = omega arith in ap (λ n. (pos n, x) ∷ []) (sym e)
taken_from j (suc i) (x ∷ xs) l =
    let e : suc j + i ≡ j + suc i = omega arith in
    let n : suc i + 1 ≡ suc (i + 1) = omega arith in
    ap (λ m. numbered j (take m (x ∷ xs))) n
    ∙ ap (λ rows. (pos j, x) ∷ rows) (taken_from (suc j) i xs (omega (arith, l)) ∙ ap (λ m. numbered (suc j) (take i xs) ++ (pos m, slice_index_or xs i (pos 0)) ∷ []) e)

module _ (xs : List ℤ) (i : ℕ) (rows : List Row) (key x : ℤ) (l : i < length xs) (r : rows ≡ numbered 0 (take i xs)) (k : key ≡ pos i) (e : x ≡ slice_index_or xs i (pos 0)) where
  pub one_more : rows ++ (key, x) ∷ [] ≡ numbered 0 (take (i + 1) xs)
  one_more =
      let z : 0 + i ≡ i = omega arith in
      let pair : (key, x) ≡ (pos (0 + i), slice_index_or xs i (pos 0)) = λ j. ((k ∙ ap pos (sym z)) j, e j) in
      (λ j. r j ++ pair j ∷ []) ∙ sym (taken_from 0 i xs l)

  pub more_rise : IsRising (rows ++ (key, x) ∷ [])
  more_rise = subst IsRising (sym one_more) (numbered-rises 0 (take (i + 1) xs))

pub few_taken : (xs : List ℤ) (i : ℕ) (rows : List Row) → rows ≡ numbered 0 (take i xs) → length rows ≤ i
few_taken xs i rows r = omega (arith, ap length r, length-numbered 0 (take i xs), length-take i xs)
