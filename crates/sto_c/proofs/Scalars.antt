-- The scalars stand before all other objects.
use Rattle.std.proofs.Common.{◌≡◌, ◌+◌, ◌<◌, ◌≤◌, ◌⊎◌, ℕ, zero, suc, List, [], ◌∷◌, ◌++◌, length, refl, sym, subst, arith, inl, inr}
use Rattle.std.proofs.Math.Nat.{le-max_left, le-max_right}
use Rattle.sto_model.specs.declared.shape.Shape.{Shape}
use Rattle.sto_model.specs.Sizes.{rank}
use Rattle.sto_shared_store.specs.Plans.{last_rank}
use Rattle.sto_c.specs.Stores.{AreScalars}

-- there are no more of them than objects
pub few_scalars : (count : ℕ) (shapes : List Shape) → AreScalars count shapes → count ≤ length shapes
few_scalars count [] none = omega (arith, none)
few_scalars zero (x ∷ xs) h = omega arith
few_scalars (suc count) (x ∷ xs) h = let rest = few_scalars count xs h.1 in omega (arith, rest)

one_more : (count : ℕ) (shapes : List Shape) (s : Shape) → AreScalars count shapes → last_rank shapes ≤ rank s → rank s < 2 → AreScalars (suc count) (shapes ++ s ∷ [])
one_more count [] s none last less = (less, none)
one_more zero (x ∷ xs) s h last less = let here = le-max_left (rank x) (last_rank xs) in absurd (omega (arith, here, last, less, h.0))
one_more (suc count) (x ∷ xs) s h last less = let rest = le-max_right (rank x) (last_rank xs) in (h.0, one_more count xs s h.1 (omega (arith, rest, last)) less)

no_more : (count : ℕ) (shapes : List Shape) (s : Shape) → AreScalars count shapes → 2 ≤ rank s → AreScalars count (shapes ++ s ∷ [])
no_more zero [] s none more = (more, refl)
no_more (suc count) [] s none more = absurd (omega (arith, none))
no_more zero (x ∷ xs) s h more = (h.0, no_more zero xs s h.1 more)
no_more (suc count) (x ∷ xs) s h more = (h.0, no_more count xs s h.1 more)

either : (k : ℕ) → (k < 2) ⊎ (2 ≤ k)
either zero = inl (omega arith)
either (suc zero) = inl (omega arith)
either (suc (suc k)) = inr (omega arith)

-- one more object is counted where it is one
pub scalars_next : (count next : ℕ) (shapes new : List Shape) (s : Shape) → AreScalars count shapes → last_rank shapes ≤ rank s → new ≡ shapes ++ s ∷ []
    → (rank s < 2 → next ≡ count + 1) → (2 ≤ rank s → next ≡ count) → AreScalars next new
scalars_next count next shapes new s h last more scalar other = subst (λ (l : List Shape). AreScalars next l) (sym more) (by (either (rank s)))
  where
    by : (rank s < 2) ⊎ (2 ≤ rank s) → AreScalars next (shapes ++ s ∷ [])
    by (inl less) =
        let same : suc count ≡ next = omega (arith, scalar less) in subst (λ (k : ℕ). AreScalars k (shapes ++ s ∷ [])) same (one_more count shapes s h last less)
    by (inr far) = subst (λ (k : ℕ). AreScalars k (shapes ++ s ∷ [])) (sym (other far)) (no_more count shapes s h far)
