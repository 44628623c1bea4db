-- Facts of each of a list.
use Rattle.std.proofs.Common.{◌≡◌, ℕ, zero, suc, ◌<◌, List, [], ◌∷◌, ◌++◌, length, subst, arith, slice_index_or}
use Rattle.std.specs.List.{Contains}
use Rattle.sto_attempt_log.specs.Every.{AllOf}

module _ {A : Type 0} (P : A → Type 0) where
  pub all_append : (xs ys : List A) → AllOf P xs → AllOf P ys → AllOf P (xs ++ ys)
  all_append [] ys a b = b
  all_append (x ∷ xs) ys a b = (a.0, all_append xs ys a.1 b)

  pub all_map : (Q : A → Type 0) → ((x : A) → P x → Q x) → (xs : List A) → AllOf P xs → AllOf Q xs
  all_map Q f [] a = tt
  all_map Q f (x ∷ xs) a = (f x a.0, all_map Q f xs a.1)

  all_at : (xs : List A) (x : A) (k : ℕ) → k < length xs → slice_index_or xs k x ≡ x → AllOf P xs → P x
  all_at [] x k h e a = absurd (omega (arith, h))
  all_at (y ∷ ys) x zero h e a = subst P e a.0
  all_at (y ∷ ys) x (suc k) h e a = all_at ys x k (omega (arith, h)) e a.1

  pub all_contained : (xs : List A) (x : A) → Contains xs x → AllOf P xs → P x
  all_contained xs x c a = all_at xs x c.0 c.1 c.2 a
