-- The rows of accounts, by their balances.
use Rattle.std.specs.Prelude.{fold, slice_index_or, slice_set}
use Rattle.std.specs.Ordering.{int_eq}
use Rattle.std.proofs.Common.{◌≡◌, ◌≤◌, ◌<◌, ℕ, zero, suc, ◌+◌, ℤ, pos, ◌+ℤ◌, List, [], ◌∷◌, length, refl, ap, sym, ◌∙◌, arith, true, false, Some, int_lt}
use Rattle.std.proofs.lemmas.Int.{ints}
use Rattle.sto_model.specs.Objects.{in_range, added_at}
use Rattle.sto_model.specs.Rows.{Row, value_at, with_row}
use Rattle.sto_bench.specs.Summary.{total_of}

-- accounts with these balances, from a number on
abbrev pub rows_from : ℕ → List ℕ → List Row
rows_from first [] = []
rows_from first (b ∷ bs) = (pos first, pos b) ∷ rows_from (suc first) bs

abbrev pub sum_of : List ℕ → ℕ
sum_of [] = 0
sum_of (b ∷ bs) = b + sum_of bs

total_from : (a first : ℕ) (bs : List ℕ) → fold (λ (total : ℤ) (row : Row). total +ℤ row.1) (pos a) (rows_from first bs) ≡ pos (a + sum_of bs)
total_from a first [] = let same : a ≡ a + 0 = omega arith in ap pos same
total_from a first (b ∷ bs) = let same : (a + b) + sum_of bs ≡ a + (b + sum_of bs) = omega arith in total_from (a + b) (suc first) bs ∙ ap pos same

-- together they hold the sum
pub total_is : (bs : List ℕ) → total_of (rows_from 0 bs) ≡ pos (sum_of bs)
total_is bs = let same : 0 + sum_of bs ≡ sum_of bs = omega arith in total_from 0 0 bs ∙ ap pos same

same_key : (i j : ℕ) → i ≡ j → int_eq (pos i) (pos j) ≡ true
same_key i j e = grind (arith, ints)

other_key : (i j : ℕ) → i < j → int_eq (pos i) (pos j) ≡ false
other_key i j l = grind (arith, ints)

below_key : (i j : ℕ) → i < j → int_lt (pos i) (pos j) ≡ true
below_key i j l = grind (arith, ints)

not_below : (i j : ℕ) → i ≡ j → int_lt (pos i) (pos j) ≡ false
not_below i j e = grind (arith, ints)

value_from : (first : ℕ) (bs : List ℕ) (i key : ℕ) → key ≡ first + i → i < length bs → value_at (rows_from first bs) (pos key) ≡ Some (pos (slice_index_or bs i 0))
value_from first [] i key e l = absurd (omega (arith, l))
value_from first (b ∷ bs) zero key e l = rw (same_key first key (omega (arith, e))) refl
value_from first (b ∷ bs) (suc i) key e l = rw (other_key first key (omega (arith, e))) (value_from (suc first) bs i key (omega (arith, e)) (omega (arith, l)))

-- the balance of an account
pub value_is : (bs : List ℕ) (i : ℕ) → i < length bs → value_at (rows_from 0 bs) (pos i) ≡ Some (pos (slice_index_or bs i 0))
value_is bs i l = value_from 0 bs i i (omega arith) l

with_from : (first : ℕ) (bs : List ℕ) (i key new : ℕ) → key ≡ first + i → i < length bs → with_row (rows_from first bs) (pos key) (pos new) ≡ rows_from first (slice_set bs i new)
with_from first [] i key new e l = absurd (omega (arith, l))
with_from first (b ∷ bs) zero key new e l =
    let here : first ≡ key = omega (arith, e) in
    rw (same_key first key here, not_below first key here) (ap (λ (k : ℕ). (pos k, pos new) ∷ rows_from (suc first) bs) (sym here))
with_from first (b ∷ bs) (suc i) key new e l =
    rw (below_key first key (omega (arith, e))) (ap (λ (rows : List Row). (pos first, pos b) ∷ rows) (with_from (suc first) bs i key new (omega (arith, e)) (omega (arith, l))))

small : (n : ℕ) → n ≤ 64000 → in_range (pos n) ≡ Some (pos n)
small n l = grind (arith, ints)

-- an addition that leaves a balance of at most 64,000
pub added_is : (bs : List ℕ) (i new : ℕ) (d : ℤ) → i < length bs → pos (slice_index_or bs i 0) +ℤ d ≡ pos new → new ≤ 64000
    → (added_at (value_at (rows_from 0 bs) (pos i)) (pos i) d (rows_from 0 bs)).after ≡ rows_from 0 (slice_set bs i new)
added_is bs i new d l e few = rw (value_is bs i l, e, small new few) (with_from 0 bs i i new (omega arith) l)

-- the sum after one balance has changed
pub sum_set : (bs : List ℕ) (i new : ℕ) → i < length bs → sum_of (slice_set bs i new) + slice_index_or bs i 0 ≡ sum_of bs + new
sum_set [] i new l = absurd (omega (arith, l))
sum_set (b ∷ bs) zero new l = omega arith
sum_set (b ∷ bs) (suc i) new l = let rest = sum_set bs i new (omega (arith, l)) in omega (arith, rest)

pub one_of : (bs : List ℕ) (i : ℕ) → slice_index_or bs i 0 ≤ sum_of bs
one_of [] i = omega arith
one_of (b ∷ bs) zero = omega arith
one_of (b ∷ bs) (suc i) = let rest = one_of bs i in omega (arith, rest)
