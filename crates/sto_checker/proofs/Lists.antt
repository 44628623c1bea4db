-- Lists with an item more at the end of one of them.
use Rattle.std.proofs.Common.{◌≡◌, ◌⊎◌, ℕ, zero, suc, ◌<◌, ◌≤◌, ◌+◌, List, [], ◌∷◌, ◌++◌, length, map, replicate, refl, sym, ap, ◌∙◌, Some, slice_get, slice_set, arith, inl, inr}
use Rattle.std.proofs.lemmas.List.{map-append}
use Rattle.sto_part.specs.Listed.{Listed}
use Rattle.sto_checker.specs.Windows.{with_more}

pub more_length : {X : Type 0} (lists : List (List X)) (n : ℕ) (x : X) → length (with_more lists n x) ≡ length lists
more_length [] n x = refl
more_length (l ∷ lists) zero x = refl
more_length (l ∷ lists) (suc n) x = ap suc (more_length lists n x)

pub more_same : {X : Type 0} (lists : List (List X)) (n : ℕ) (x : X) (xs : List X) → slice_get lists n ≡ Some xs → slice_get (with_more lists n x) n ≡ Some (xs ++ x ∷ [])
more_same [] zero x xs e = absurd cc
more_same [] (suc n) x xs e = absurd cc
more_same (l ∷ lists) zero x xs e = let same : l ≡ xs = cc in ap (λ (ys : List _). Some (ys ++ x ∷ [])) same
more_same (l ∷ lists) (suc n) x xs e = more_same lists n x xs e

pub more_other : {X : Type 0} (lists : List (List X)) (n m : ℕ) (x : X) → (m ≡ n → ⊥) → slice_get (with_more lists n x) m ≡ slice_get lists m
more_other [] n m x ne = refl
more_other (l ∷ lists) zero zero x ne = absurd (ne refl)
more_other (l ∷ lists) zero (suc m) x ne = refl
more_other (l ∷ lists) (suc n) zero x ne = refl
more_other (l ∷ lists) (suc n) (suc m) x ne = more_other lists n m x (λ e. ne (ap suc e))

-- the list that has one more
pub record IsMore {X : Type 0} (lists : List (List X)) (n : ℕ) (x : X) (m : ℕ) (ys : List X) : Type 0 where
  pub same : m ≡ n
  pub xs : List X
  pub at : slice_get lists n ≡ Some xs
  pub is : ys ≡ xs ++ x ∷ []

pub more_cases : {X : Type 0} (lists : List (List X)) (n : ℕ) (x : X) (m : ℕ) (ys : List X) → slice_get (with_more lists n x) m ≡ Some ys → IsMore lists n x m ys ⊎ ((m ≡ n → ⊥) × (slice_get lists m ≡ Some ys))
more_cases [] n x zero ys e = absurd cc
more_cases [] n x (suc m) ys e = absurd cc
more_cases (l ∷ lists) zero x zero ys e = let is : l ++ x ∷ [] ≡ ys = cc in inl (record { same = refl; xs = l; at = refl; is = sym is })
more_cases (l ∷ lists) zero x (suc m) ys e = inr ((λ f. absurd (omega (arith, f))), e)
more_cases (l ∷ lists) (suc n) x zero ys e = inr ((λ f. absurd (omega (arith, f))), e)
more_cases (l ∷ lists) (suc n) x (suc m) ys e = by (more_cases lists n x m ys e)
  where
    by : IsMore lists n x m ys ⊎ ((m ≡ n → ⊥) × (slice_get lists m ≡ Some ys)) → IsMore (l ∷ lists) (suc n) x (suc m) ys ⊎ ((suc m ≡ suc n → ⊥) × (slice_get (l ∷ lists) (suc m) ≡ Some ys))
    by (inl h) = inl (record { same = ap suc h.same; xs = h.xs; at = h.at; is = h.is })
    by (inr h) = inr ((λ f. h.0 (omega (arith, f))), h.1)

-- a list that was lent, with an item pushed
pub set_more : {X : Type 0} (lists : List (Listed X)) (n : ℕ) (l new : Listed X) (x : X) → slice_get lists n ≡ Some l → new.items ≡ l.items ++ x ∷ []
    → map (λ (m : Listed X). m.items) (slice_set lists n new) ≡ with_more (map (λ (m : Listed X). m.items) lists) n x
set_more [] zero l new x e h = absurd cc
set_more [] (suc n) l new x e h = absurd cc
set_more (m ∷ lists) zero l new x e h =
    let same : m ≡ l = cc in
    ap (λ (is : List _). is ∷ map (λ (k : Listed _). k.items) lists) (h ∙ ap (λ (k : Listed _). k.items ++ x ∷ []) (sym same))
set_more (m ∷ lists) (suc n) l new x e h = ap (λ (ls : List (List _)). m.items ∷ ls) (set_more lists n l new x e h)

pub at_mapped : {X : Type 0} (lists : List (Listed X)) (n : ℕ) (l : Listed X) → slice_get lists n ≡ Some l → slice_get (map (λ (m : Listed X). m.items) lists) n ≡ Some l.items
at_mapped [] zero l e = absurd cc
at_mapped [] (suc n) l e = absurd cc
at_mapped (m ∷ lists) zero l e = let same : m ≡ l = cc in ap (λ (k : Listed _). Some k.items) same
at_mapped (m ∷ lists) (suc n) l e = at_mapped lists n l e

-- the places of a list with one more
pub push_cases : {X : Type 0} (xs : List X) (x : X) (i : ℕ) (y : X) → slice_get (xs ++ x ∷ []) i ≡ Some y → (slice_get xs i ≡ Some y) ⊎ ((i ≡ length xs) × (y ≡ x))
push_cases [] x zero y e = let same : x ≡ y = cc in inr (refl, sym same)
push_cases [] x (suc i) y e = absurd cc
push_cases (z ∷ xs) x zero y e = inl e
push_cases (z ∷ xs) x (suc i) y e = by (push_cases xs x i y e)
  where
    by : (slice_get xs i ≡ Some y) ⊎ ((i ≡ length xs) × (y ≡ x)) → (slice_get (z ∷ xs) (suc i) ≡ Some y) ⊎ ((suc i ≡ suc (length xs)) × (y ≡ x))
    by (inl h) = inl h
    by (inr h) = inr (ap suc h.0, h.1)

pub push_front : {X : Type 0} (xs : List X) (x : X) (i : ℕ) (y : X) → slice_get xs i ≡ Some y → slice_get (xs ++ x ∷ []) i ≡ Some y
push_front [] x zero y e = absurd cc
push_front [] x (suc i) y e = absurd cc
push_front (z ∷ xs) x zero y e = e
push_front (z ∷ xs) x (suc i) y e = push_front xs x i y e

-- empty lists
module _ {X : Type 0} where
  replicate_more : (n : ℕ) (x : List X) → replicate n x ++ x ∷ [] ≡ replicate (suc n) x
  replicate_more zero x = refl
  replicate_more (suc n) x = ap (λ (ls : List (List X)). x ∷ ls) (replicate_more n x)

  pub empty_more : (lists new : List (Listed X)) (l : Listed X) (n : ℕ) → new ≡ lists ++ l ∷ [] → l.items ≡ [] → map (λ (m : Listed X). m.items) lists ≡ replicate n [] → map (λ (m : Listed X). m.items) new ≡ replicate (n + 1) []
  empty_more lists new l n e none h =
      let none_of : List X = [] in
      let last : suc n ≡ n + 1 = omega arith in
      ap (map (λ (m : Listed X). m.items)) e
      ∙ map-append (λ (m : Listed X). m.items) lists (l ∷ [])
      ∙ ap (λ (ls : List (List X)). ls ++ l.items ∷ []) h
      ∙ ap (λ (is : List X). replicate n none_of ++ is ∷ []) none
      ∙ replicate_more n none_of
      ∙ ap (λ (k : ℕ). replicate k none_of) last

pub some_at : {X : Type 0} (xs : List X) (i : ℕ) → i < length xs → (x : X) × (slice_get xs i ≡ Some x)
some_at [] i l = absurd (omega (arith, l))
some_at (x ∷ xs) zero l = (x, refl)
some_at (x ∷ xs) (suc i) l = some_at xs i (omega (arith, l))

pub same_listed : {X : Type 0} (a b : Listed X) → Some a ≡ Some b → a ≡ b
same_listed a b e = cc
