-- What holds of the items of a list.
use Rattle.std.specs.List.{All, remove}
use Rattle.std.proofs.Common.{◌≡◌, ℕ, suc, List, [], ◌∷◌, ◌++◌, take, drop, slice_get, Some, subst, arith}
use Rattle.std.proofs.lemmas.Option.{slice_get_within, get_or_from_slice_get}
use Rattle.std.proofs.lemmas.List.Elements.{All-append, All-cons, All-take, All-drop}

module _ {X : Type 0} (P : X → Type 0) where
  -- of one of them
  pub All-at : (xs : List X) (i : ℕ) (x : X) → slice_get xs i ≡ Some x → All P xs → P x
  All-at xs i x e all = subst P (get_or_from_slice_get xs i x x e) (all i x (slice_get_within xs i x e))

  -- of the others
  pub All-without : (xs : List X) (i : ℕ) → All P xs → All P (remove xs i)
  All-without xs i all = All-append P (take i xs) (drop (suc i) xs) (All-take P i xs all) (All-drop P (suc i) xs all)

  -- of one more
  pub All-with : (xs : List X) (x : X) → All P xs → P x → All P (xs ++ x ∷ [])
  All-with xs x all one = All-append P xs (x ∷ []) all (All-cons P x [] one (λ k d less. absurd (omega arith)))
