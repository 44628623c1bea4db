-- What a push and a pop make of the rows of a vector.
use Rattle.std.specs.Ordering.{int_eq}
use Rattle.std.specs.Prelude.{if◌then◌else◌, option_map, find}
use Rattle.std.proofs.Common.{◌≡◌, ℕ, suc, ℤ, pos, List, [], ◌∷◌, ◌++◌, length, Option, Some, None, Bool, true, false, refl, sym, ap, ◌∙◌, arith, length-append}
use Rattle.std.proofs.lemmas.Int.{ints}
use Rattle.sto_model.specs.Rows.{Row, with_row, without, value_at}
use Rattle.sto_model.specs.Objects.{effect, popped, pop_effect, vector_effect}
use Rattle.sto_model.specs.PlainReplies.{Value}
use Rattle.sto_model.specs.declared.operation.Operation.TheVariants.{Pop}
use Rattle.sto_model.proofs.RowFacts.{AllBelow, with_row-below, without-here, without-past, not_equal_of, equal_of}
use Rattle.sto_library.specs.Vectors.{placed}

pub many_placed : (xs : List ℤ) → length (placed xs) ≡ length xs
many_placed [] = refl
many_placed (x ∷ xs) = let k = many_placed xs in let e = length-append (placed xs) ((pos (length xs), x) ∷ []) in omega (arith, k, e)

below_more : (xs : List Row) (n : ℕ) (v : ℤ) → AllBelow (pos n) xs → AllBelow (pos (suc n)) (xs ++ (pos n, v) ∷ [])
below_more [] n v h = (grind (arith, ints), tt)
below_more (x ∷ xs) n v h = (grind (arith, ints, h.0), below_more xs n v h.1)

pub all_below : (xs : List ℤ) → AllBelow (pos (length xs)) (placed xs)
all_below [] = tt
all_below (x ∷ xs) = below_more (placed xs) (length xs) x (all_below xs)

-- a row past all others
put_last : (rows : List Row) (k v : ℤ) → AllBelow k rows → with_row rows k v ≡ rows ++ (k, v) ∷ []
put_last [] k v h = refl
put_last (r ∷ rows) k v h = with_row-below r rows k v (grind (arith, ints, h.0)) ∙ ap (λ (l : List Row). r ∷ l) (put_last rows k v h.1)

find_last : (rows : List Row) (k v : ℤ) → AllBelow k rows → find (λ (r : Row). int_eq r.0 k) (rows ++ (k, v) ∷ []) ≡ Some (k, v)
find_last [] k v h = ap (λ (b : Bool). if b then Some (k, v) else None) (equal_of k k refl)
find_last (r ∷ rows) k v h =
    ap (λ (b : Bool). if b then Some r else find (λ (r : Row). int_eq r.0 k) (rows ++ (k, v) ∷ [])) (not_equal_of r.0 k (λ e. grind (arith, ints, h.0, e))) ∙ find_last rows k v h.1

take_last : (rows : List Row) (k v : ℤ) → AllBelow k rows → without (rows ++ (k, v) ∷ []) k ≡ rows
take_last [] k v h = without-here (k, v) [] k (equal_of k k refl)
take_last (r ∷ rows) k v h = without-past r (rows ++ (k, v) ∷ []) k (not_equal_of r.0 k (λ e. grind (arith, ints, h.0, e))) ∙ ap (λ (l : List Row). r ∷ l) (take_last rows k v h.1)

-- a push
pub pushed_rows : (xs : List ℤ) (v : ℤ) → with_row (placed xs) (pos (length (placed xs))) v ≡ placed (v ∷ xs)
pushed_rows xs v = ap (λ (n : ℕ). with_row (placed xs) (pos n) v) (many_placed xs) ∙ put_last (placed xs) (pos (length xs)) v (all_below xs)

-- the value at the last place, and what is left without it
pub last_value : (x : ℤ) (xs : List ℤ) → value_at (placed (x ∷ xs)) (pos (length xs)) ≡ Some x
last_value x xs = ap (option_map (λ (r : Row). r.1)) (find_last (placed xs) (pos (length xs)) x (all_below xs))

pub popped_rows : (x : ℤ) (xs : List ℤ) → without (placed (x ∷ xs)) (pos (length xs)) ≡ placed xs
popped_rows x xs = take_last (placed xs) (pos (length xs)) x (all_below xs)

-- a pop of what is there
pub pop_leaves : (capacity : ℕ) (x : ℤ) (xs : List ℤ) → vector_effect capacity Pop (pos 0) (pos 0) (placed (x ∷ xs)) ≡ effect (Value x) (placed xs)
pop_leaves capacity x xs =
    ap (λ (n : ℕ). pop_effect n (placed (x ∷ xs))) (many_placed (x ∷ xs))
    ∙ ap (λ (o : Option ℤ). popped o (pos (length xs)) (placed (x ∷ xs))) (last_value x xs)
    ∙ ap (λ (rows : List Row). effect (Value x) rows) (popped_rows x xs)
