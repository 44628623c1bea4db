-- Lists that are cut at an item.
use Rattle.std.proofs.Common.{◌≡◌, ◌⊎◌, ℕ, zero, suc, ◌+◌, ◌<◌, ◌≤◌, List, [], ◌∷◌, ◌++◌, length, map, take, drop, refl, sym, ap, ◌∙◌, Some, slice_get, arith, inl, inr}

pub same_first : {X : Type 0} (x y : X) (xs ys : List X) → x ∷ xs ≡ y ∷ ys → x ≡ y
same_first x y xs ys e = ap (λ l. first_or x l) e
  where
    first_or : {X : Type 0} → X → List X → X
    first_or x [] = x
    first_or x (z ∷ zs) = z

pub same_rest : {X : Type 0} (x y : X) (xs ys : List X) → x ∷ xs ≡ y ∷ ys → xs ≡ ys
same_rest x y xs ys e = ap (λ l. rest_of l) e
  where
    rest_of : {X : Type 0} → List X → List X
    rest_of [] = []
    rest_of (z ∷ zs) = zs

-- two lists, cut in the first one or in the second
pub record InFirst {X : Type 0} (xs front : List X) (x : X) : Type 0 where
  pub back : List X
  pub are : xs ≡ front ++ x ∷ back

pub record InSecond {X : Type 0} (xs ys front : List X) (x : X) (back : List X) : Type 0 where
  pub more : List X
  pub front_is : front ≡ xs ++ more
  pub are : ys ≡ more ++ x ∷ back

pub cut_append : {X : Type 0} (xs ys front : List X) (x : X) (back : List X) → xs ++ ys ≡ front ++ x ∷ back → InFirst xs front x ⊎ InSecond xs ys front x back
cut_append [] ys front x back e = inr (record { more = front; front_is = refl; are = e })
cut_append (z ∷ xs) ys [] x back e = inl (record { back = xs; are = ap (λ y. y ∷ xs) (same_first z x (xs ++ ys) back e) })
cut_append (z ∷ xs) ys (w ∷ front) x back e = by (cut_append xs ys front x back (same_rest z w (xs ++ ys) (front ++ x ∷ back) e))
  where
    first : z ≡ w
    first = same_first z w (xs ++ ys) (front ++ x ∷ back) e

    by : InFirst xs front x ⊎ InSecond xs ys front x back → InFirst (z ∷ xs) (w ∷ front) x ⊎ InSecond (z ∷ xs) ys (w ∷ front) x back
    by (inl h) = inl (record { back = h.back; are = ap (λ y. y ∷ xs) first ∙ ap (λ l. w ∷ l) h.are })
    by (inr h) = inr (record { more = h.more; front_is = ap (λ y. y ∷ front) (sym first) ∙ ap (λ l. z ∷ l) h.front_is; are = h.are })

-- a list of what a function gives
pub record InMap {X Y : Type 0} (f : X → Y) (xs : List X) (front : List Y) (y : Y) : Type 0 where
  pub before : List X
  pub item : X
  pub after : List X
  pub are : xs ≡ before ++ item ∷ after
  pub front_is : front ≡ map f before
  pub is : y ≡ f item

pub cut_map : {X Y : Type 0} (f : X → Y) (xs : List X) (front : List Y) (y : Y) (back : List Y) → map f xs ≡ front ++ y ∷ back → InMap f xs front y
cut_map f [] [] y back e = absurd cc
cut_map f [] (z ∷ front) y back e = absurd cc
cut_map f (x ∷ xs) [] y back e = record { before = []; item = x; after = xs; are = refl; front_is = refl; is = sym (same_first (f x) y (map f xs) back e) }
cut_map f (x ∷ xs) (z ∷ front) y back e =
    let more = cut_map f xs front y back (same_rest (f x) z (map f xs) (front ++ y ∷ back) e) in
    record {
      before = x ∷ more.before;
      item = more.item;
      after = more.after;
      are = ap (λ l. x ∷ l) more.are;
      front_is = ap (λ w. w ∷ front) (sym (same_first (f x) z (map f xs) (front ++ y ∷ back) e)) ∙ ap (λ l. f x ∷ l) more.front_is;
      is = more.is;
    }

-- a list at a place
pub record CutAt {X : Type 0} (xs : List X) (place : ℕ) : Type 0 where
  pub item : X
  pub stands : slice_get xs place ≡ Some item
  pub are : xs ≡ take place xs ++ item ∷ drop (suc place) xs

pub cut_at_place : {X : Type 0} (xs : List X) (place : ℕ) → place < length xs → CutAt xs place
cut_at_place [] place l = absurd (omega (arith, l))
cut_at_place (x ∷ xs) zero l = record { item = x; stands = refl; are = ap (λ ys. x ∷ ys) (whole xs) }
  where
    whole : {X : Type 0} (xs : List X) → xs ≡ drop 0 xs
    whole [] = refl
    whole (x ∷ xs) = refl
cut_at_place (x ∷ xs) (suc place) l = let more = cut_at_place xs place (omega (arith, l)) in record { item = more.item; stands = more.stands; are = ap (λ ys. x ∷ ys) more.are }
