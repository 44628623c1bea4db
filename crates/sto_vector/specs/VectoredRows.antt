-- The rows of a vector, by its size and its places.
use Rattle.std.specs.Prelude.{◌≡◌, ◌<◌, ◌≤◌, ◌+◌, ℕ, zero, suc, ℤ, pos, negsuc, nat_lt, int_lt, true, false, if◌then◌else◌, Option, Some, None, List, [], ◌∷◌, length, take, slice_index_or, slice_set, refl}
use Rattle.std.specs.Ordering.{int_eq}
use Rattle.std.proofs.Common.{ap, sym, ◌∙◌, arith}
use Rattle.std.proofs.lemmas.Int.{ints}
use Rattle.std.proofs.lemmas.List.{length-take, get_or-take}
use Rattle.std.proofs.lemmas.Bool.Decides.{nat_tests}
use Rattle.sto_item.specs.Agreement.{word_of}
use Rattle.sto_model.specs.Rows.{value_at, with_row, without}
use Rattle.sto_model.proofs.RowFacts.{by_test, with_row-below, without-here, without-past}
use Rattle.sto_type.specs.Known.{Parts}
use Rattle.sto_array.specs.Arrayed.{array_rows, place_of}
use Rattle.sto_array.specs.ArrayedRows.{value_of_place, nothing_past, nothing_below, place_some}
use Rattle.sto_array.proofs.Rows.{length-rows}

-- the number of rows is the size
pub count : (n : ℕ) (places : Parts) → n ≤ length places → length (array_rows 0 (take n places)) ≡ n
count n places l = omega (arith, l, length-rows 0 (take n places), length-take n places)

-- no part of a front of none
pub take_none : (places : Parts) → take 0 places ≡ []
take_none [] = refl
take_none (ws ∷ places) = refl

-- a row behind the last
below : (j n : ℕ) → int_lt (pos j) (pos (j + suc n)) ≡ true
below j n = grind (arith, ints)

pub with_end : (j n : ℕ) (places : Parts) (v : ℤ) → n < length places → with_row (array_rows j (take n places)) (pos (j + n)) v ≡ array_rows j (take (suc n) (slice_set places n (v ∷ [])))
with_end j n [] v l = absurd (omega (arith, l))
with_end j zero (ws ∷ places) v l = let e : j + 0 ≡ j = omega arith in ap (λ x. (pos x, v) ∷ []) e ∙ ap (λ l. (pos j, v) ∷ array_rows (suc j) l) (sym (take_none places))
with_end j (suc n) (ws ∷ places) v l =
    let e : j + suc n ≡ suc j + n = omega arith in
    with_row-below (pos j, slice_index_or ws 0 (pos 0)) (array_rows (suc j) (take n places)) (pos (j + suc n)) v (below j n)
    ∙ ap (λ rows. (pos j, slice_index_or ws 0 (pos 0)) ∷ rows) (ap (λ x. with_row (array_rows (suc j) (take n places)) (pos x) v) e ∙ with_end (suc j) n places v (omega (arith, l)))

-- without the last row
same : (j : ℕ) → int_eq (pos j) (pos (j + 0)) ≡ true
same j = grind (arith, ints)

other : (j n : ℕ) → int_eq (pos j) (pos (j + suc n)) ≡ false
other j n = grind (arith, ints)

pub without_end : (j n : ℕ) (places : Parts) → n < length places → without (array_rows j (take (suc n) places)) (pos (j + n)) ≡ array_rows j (take n places)
without_end j n [] l = absurd (omega (arith, l))
without_end j zero (ws ∷ places) l = without-here (pos j, slice_index_or ws 0 (pos 0)) (array_rows (suc j) (take 0 places)) (pos (j + 0)) (same j) ∙ ap (array_rows (suc j)) (take_none places)
without_end j (suc n) (ws ∷ places) l =
    let e : j + suc n ≡ suc j + n = omega arith in
    without-past (pos j, slice_index_or ws 0 (pos 0)) (array_rows (suc j) (take (suc n) places)) (pos (j + suc n)) (other j n)
    ∙ ap (λ rows. (pos j, slice_index_or ws 0 (pos 0)) ∷ rows) (ap (λ x. without (array_rows (suc j) (take (suc n) places)) (pos x)) e ∙ without_end (suc j) n places (omega (arith, l)))

-- the value at a place below the size, and at none past it
pub lt_of : (j n : ℕ) → nat_lt j n ≡ true → j < n
lt_of j n t = grind (arith, nat_tests)

pub ge_of : (j n : ℕ) → nat_lt j n ≡ false → n ≤ j
ge_of j n t = grind (arith, nat_tests)

pub value_below : (n i : ℕ) (places : Parts) → n ≤ length places → i < n → value_at (array_rows 0 (take n places)) (pos i) ≡ Some (word_of places i 0)
value_below n i places l s =
    let z : 0 + i ≡ i = omega arith in
    value_of_place 0 i (take n places) (pos i) (ap pos (sym z)) (omega (arith, l, s, length-take n places))
    ∙ ap (λ (ws : List ℤ). Some (slice_index_or ws 0 (pos 0))) (get_or-take n places i [] s)

pub value_past : (n i : ℕ) (places : Parts) → n ≤ i → value_at (array_rows 0 (take n places)) (pos i) ≡ None
value_past n i places s =
    let z : 0 + i ≡ i = omega arith in
    ap (λ x. value_at (array_rows 0 (take n places)) (pos x)) (sym z) ∙ nothing_past 0 i (take n places) (omega (arith, s, length-take n places))

-- the value at an index, by its place
abbrev pub value_in : Option ℕ → ℕ → Parts → Option ℤ
value_in None n places = None
value_in (Some i) n places = if nat_lt i n then Some (word_of places i 0) else None

none_outside : (capacity n : ℕ) (a : ℤ) (places : Parts) → n ≤ capacity → place_of capacity a ≡ None → value_at (array_rows 0 (take n places)) a ≡ None
none_outside capacity n (pos i) places l e =
    by_test (nat_lt i capacity)
    (λ t. let f : Some i ≡ None = sym (rw t refl) ∙ e in cc)
    (λ t. value_past n i places (omega (arith, l, ge_of i capacity t)))
none_outside capacity n (negsuc i) places l e = nothing_below 0 i (take n places)

pub value_is : (capacity n : ℕ) (a : ℤ) (places : Parts) (q : Option ℕ) → n ≤ capacity → length places ≡ capacity → place_of capacity a ≡ q → value_at (array_rows 0 (take n places)) a ≡ value_in q n places
value_is capacity n a places None l m e = none_outside capacity n a places l e
value_is capacity n a places (Some i) l m e =
    let h : (a ≡ pos i) × (i < capacity) = place_some capacity a i e in
    ap (value_at (array_rows 0 (take n places))) h.0
    ∙ by_test (nat_lt i n)
    (λ t. rw t (value_below n i places (omega (arith, l, m)) (lt_of i n t)))
    (λ t. rw t (value_past n i places (ge_of i n t)))
