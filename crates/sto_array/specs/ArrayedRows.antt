-- The rows of an array, by its parts.
use Rattle.std.specs.Prelude.{◌≡◌, ◌<◌, ◌≤◌, ◌+◌, ℕ, zero, suc, ℤ, pos, negsuc, ◌<ℤ◌, nat_lt, int_lt, Bool, true, false, Some, None, List, [], ◌∷◌, ◌++◌, map, length, take, replicate, slice_index_or, slice_set, slice_get, refl}
use Rattle.std.specs.Int.{w64}
use Rattle.std.specs.Int.RustNames.{FitsSigned}
use Rattle.std.specs.Ordering.{int_eq}
use Rattle.std.proofs.Common.{ap, sym, ◌∙◌, arith}
use Rattle.std.proofs.lemmas.Int.{ints}
use Rattle.std.proofs.lemmas.Bool.Decides.{nat_tests}
use Rattle.sto_part.specs.Parts.{part_of}
use Rattle.sto_item.specs.Agreement.{word_of}
use Rattle.sto_model.specs.Rows.{Row, RisesFrom, IsRising, value_at, with_row, rows_below}
use Rattle.sto_type.specs.Known.{Parts, WordsFit, ContentsFit}
use Rattle.sto_array.specs.Arrayed.{array_rows, place_of, homes_from}

pub by_test : {P : Type 0} (b : Bool) → (b ≡ true → P) → (b ≡ false → P) → P
by_test true f g = f refl
by_test false f g = g refl

-- steps of the definitions
value_here : (s : Row) (xs : List Row) (k : ℤ) → int_eq s.0 k ≡ true → value_at (s ∷ xs) k ≡ Some s.1
value_here s xs k e = rw e refl

value_past : (s : Row) (xs : List Row) (k : ℤ) → int_eq s.0 k ≡ false → value_at (s ∷ xs) k ≡ value_at xs k
value_past s xs k e = rw e refl

with_here : (s : Row) (xs : List Row) (k v : ℤ) → int_lt s.0 k ≡ false → int_eq s.0 k ≡ true → with_row (s ∷ xs) k v ≡ (k, v) ∷ xs
with_here s xs k v e f = rw (f, e) refl

with_past : (s : Row) (xs : List Row) (k v : ℤ) → int_lt s.0 k ≡ true → with_row (s ∷ xs) k v ≡ s ∷ with_row xs k v
with_past s xs k v e = rw e refl

same_number : (j : ℕ) (k : ℤ) → k ≡ pos j → int_eq (pos j) k ≡ true
same_number j k e = grind (arith, ints)

not_below : (j : ℕ) (k : ℤ) → k ≡ pos j → int_lt (pos j) k ≡ false
not_below j k e = grind (arith, ints)

below : (j i : ℕ) (k : ℤ) → k ≡ pos (j + suc i) → int_lt (pos j) k ≡ true
below j i k e = grind (arith, ints)

other_number : (j i : ℕ) (k : ℤ) → k ≡ pos (j + suc i) → int_eq (pos j) k ≡ false
other_number j i k e = grind (arith, ints)

moved : (j i : ℕ) (k : ℤ) → k ≡ pos (j + suc i) → k ≡ pos (suc j + i)
moved j i k e = let n : j + suc i ≡ suc j + i = omega arith in e ∙ ap pos n

-- the value at an index
pub value_of_place : (j i : ℕ) (c : Parts) (k : ℤ) → k ≡ pos (j + i) → i < length c → value_at (array_rows j c) k ≡ Some (word_of c i 0)
value_of_place j i [] k e l = absurd (omega (arith, l))
value_of_place j zero (ws ∷ c) k e l =
    let n : j + 0 ≡ j = omega arith in
    value_here (pos j, slice_index_or ws 0 (pos 0)) (array_rows (suc j) c) k (same_number j k (e ∙ ap pos n))
value_of_place j (suc i) (ws ∷ c) k e l =
    value_past (pos j, slice_index_or ws 0 (pos 0)) (array_rows (suc j) c) k (other_number j i k e) ∙ value_of_place (suc j) i c k (moved j i k e) (omega (arith, l))

-- the rows with another value at an index
pub with_place : (j i : ℕ) (c : Parts) (k v : ℤ) → k ≡ pos (j + i) → i < length c → with_row (array_rows j c) k v ≡ array_rows j (slice_set c i (v ∷ []))
with_place j i [] k v e l = absurd (omega (arith, l))
with_place j zero (ws ∷ c) k v e l =
    let n : j + 0 ≡ j = omega arith in
    let at : k ≡ pos j = e ∙ ap pos n in
    with_here (pos j, slice_index_or ws 0 (pos 0)) (array_rows (suc j) c) k v (not_below j k at) (same_number j k at) ∙ ap (λ x. (x, v) ∷ array_rows (suc j) c) at
with_place j (suc i) (ws ∷ c) k v e l =
    with_past (pos j, slice_index_or ws 0 (pos 0)) (array_rows (suc j) c) k v (below j i k e)
    ∙ ap (λ rows. (pos j, slice_index_or ws 0 (pos 0)) ∷ rows) (with_place (suc j) i c k v (moved j i k e) (omega (arith, l)))

pub nothing_past : (j i : ℕ) (c : Parts) → length c ≤ i → value_at (array_rows j c) (pos (j + i)) ≡ None
nothing_past j i [] l = refl
nothing_past j zero (ws ∷ c) l = absurd (omega (arith, l))
nothing_past j (suc i) (ws ∷ c) l =
    let n : j + suc i ≡ suc j + i = omega arith in
    value_past (pos j, slice_index_or ws 0 (pos 0)) (array_rows (suc j) c) (pos (j + suc i)) (other_number j i (pos (j + suc i)) refl)
    ∙ ap (λ x. value_at (array_rows (suc j) c) (pos x)) n ∙ nothing_past (suc j) i c (omega (arith, l))

below_zero : (j i : ℕ) → int_eq (pos j) (negsuc i) ≡ false
below_zero j i = grind (arith, ints)

pub nothing_below : (j i : ℕ) (c : Parts) → value_at (array_rows j c) (negsuc i) ≡ None
nothing_below j i [] = refl
nothing_below j i (ws ∷ c) = value_past (pos j, slice_index_or ws 0 (pos 0)) (array_rows (suc j) c) (negsuc i) (below_zero j i) ∙ nothing_below (suc j) i c

-- the part of an index
pub place_some : (n : ℕ) (a : ℤ) (i : ℕ) → place_of n a ≡ Some i → (a ≡ pos i) × (i < n)
place_some n (pos j) i e =
    by_test (nat_lt j n)
    (λ t. let f : Some j ≡ Some i = sym (rw t refl) ∙ e in let same : j ≡ i = cc in (ap pos same, omega (arith, same, lt_of j n t)))
    (λ t. let f : None ≡ Some i = sym (rw t refl) ∙ e in cc)
  where
    lt_of : (j n : ℕ) → nat_lt j n ≡ true → j < n
    lt_of j n t = grind (arith, nat_tests)
place_some n (negsuc j) i e = cc

pub place_none : (c : Parts) (a : ℤ) → place_of (length c) a ≡ None → value_at (array_rows 0 c) a ≡ None
place_none c (pos j) e =
    by_test (nat_lt j (length c))
    (λ t. let f : Some j ≡ None = sym (rw t refl) ∙ e in cc)
    (λ t.
    let n : 0 + j ≡ j = omega arith in
    ap (λ x. value_at (array_rows 0 c) (pos x)) (sym n) ∙ nothing_past 0 j c (ge_of j (length c) t))
  where
    ge_of : (j n : ℕ) → nat_lt j n ≡ false → n ≤ j
    ge_of j n t = grind (arith, nat_tests)
place_none c (negsuc j) e = nothing_below 0 j c

-- widths and words
heads : (x y : ℕ) (xs ys : List ℕ) → x ∷ xs ≡ y ∷ ys → (x ≡ y) × (xs ≡ ys)
heads x y xs ys e = (cc, cc)

one_word : (ws : List ℤ) → length ws ≡ 1 → ws ≡ slice_index_or ws 0 (pos 0) ∷ []
one_word [] e = cc
one_word (x ∷ []) e = refl
one_word (x ∷ y ∷ ws) e = absurd (omega (arith, e))

pub length-ones : (n : ℕ) (c : Parts) → map length c ≡ replicate n 1 → length c ≡ n
length-ones zero [] e = refl
length-ones zero (ws ∷ c) e = cc
length-ones (suc n) [] e = cc
length-ones (suc n) (ws ∷ c) e = ap suc (length-ones n c (heads (length ws) 1 (map length c) (replicate n 1) e).1)

pub part_is : (n : ℕ) (c : Parts) (i : ℕ) → map length c ≡ replicate n 1 → i < n → part_of c i ≡ word_of c i 0 ∷ []
part_is zero c i e l = absurd (omega (arith, l))
part_is (suc n) [] i e l = cc
part_is (suc n) (ws ∷ c) zero e l = one_word ws (heads (length ws) 1 (map length c) (replicate n 1) e).0
part_is (suc n) (ws ∷ c) (suc i) e l = part_is n c i (heads (length ws) 1 (map length c) (replicate n 1) e).1 (omega (arith, l))

pub widths-set : (n : ℕ) (c : Parts) (i : ℕ) (v : ℤ) → map length c ≡ replicate n 1 → map length (slice_set c i (v ∷ [])) ≡ replicate n 1
widths-set zero [] i v e = refl
widths-set zero (ws ∷ c) i v e = cc
widths-set (suc n) [] i v e = cc
widths-set (suc n) (ws ∷ c) zero v e = ap (λ l. 1 ∷ l) (heads (length ws) 1 (map length c) (replicate n 1) e).1
widths-set (suc n) (ws ∷ c) (suc i) v e =
    let h : (length ws ≡ 1) × (map length c ≡ replicate n 1) = heads (length ws) 1 (map length c) (replicate n 1) e in
    λ z. h.0 z ∷ widths-set n c i v h.1 z

pub fits-set : (c : Parts) (i : ℕ) (v : ℤ) → FitsSigned w64 v → ContentsFit c → ContentsFit (slice_set c i (v ∷ []))
fits-set [] i v f h = tt
fits-set (ws ∷ c) zero v f h = ((f, tt), h.1)
fits-set (ws ∷ c) (suc i) v f h = (h.0, fits-set c i v f h.1)

-- a word of valid contents
word_fits_in : (ws : List ℤ) → WordsFit ws → FitsSigned w64 (slice_index_or ws 0 (pos 0))
word_fits_in [] h = record { sfits = omega arith }
word_fits_in (w ∷ ws) h = h.0

pub word_fits : (c : Parts) (i : ℕ) → ContentsFit c → FitsSigned w64 (word_of c i 0)
word_fits [] zero h = record { sfits = omega arith }
word_fits [] (suc i) h = record { sfits = omega arith }
word_fits (ws ∷ c) zero h = word_fits_in ws h.0
word_fits (ws ∷ c) (suc i) h = word_fits c i h.1

-- the homes
pub length-homes : (j n : ℕ) → length (homes_from j n) ≡ n
length-homes j zero = refl
length-homes j (suc n) = ap suc (length-homes (suc j) n)

pub home_there : (j n i : ℕ) → i < n → slice_get (homes_from j n) i ≡ Some (0, j + i)
home_there j zero i l = absurd (omega (arith, l))
home_there j (suc n) zero l = let e : j + 0 ≡ j = omega arith in ap (λ x. Some (0, x)) (sym e)
home_there j (suc n) (suc i) l = let e : suc j + i ≡ j + suc i = omega arith in home_there (suc j) n i (omega (arith, l)) ∙ ap (λ x. Some (0, x)) e

pub home_owner : (j n i : ℕ) → i < n → (slice_index_or (homes_from j n) i (0, 0)).0 ≡ 0
home_owner j zero i l = absurd (omega (arith, l))
home_owner j (suc n) zero l = refl
home_owner j (suc n) (suc i) l = home_owner (suc j) n i (omega (arith, l))

pub length-replicate : (n : ℕ) → length {A = ℕ} (replicate n 1) ≡ n
length-replicate zero = refl
length-replicate (suc n) = ap suc (length-replicate n)

pub one_at : (n i : ℕ) → i < n → slice_index_or {A = ℕ} (replicate n 1) i 0 ≡ 1
one_at zero i l = absurd (omega (arith, l))
one_at (suc n) zero l = refl
one_at (suc n) (suc i) l = one_at n i (omega (arith, l))

-- the opening
pub opened_widths : (n : ℕ) (v : ℤ) → map length (replicate n (v ∷ [])) ≡ replicate n 1
opened_widths zero v = refl
opened_widths (suc n) v = ap (λ l. 1 ∷ l) (opened_widths n v)

pub opened_fits : (n : ℕ) (v : ℤ) → FitsSigned w64 v → ContentsFit (replicate n (v ∷ []))
opened_fits zero v f = tt
opened_fits (suc n) v f = ((f, tt), opened_fits n v f)

-- the same rows from the front: the model's are made from the back
rows_more : (j n : ℕ) (v : ℤ) → array_rows j (replicate (suc n) (v ∷ [])) ≡ array_rows j (replicate n (v ∷ [])) ++ (pos (j + n), v) ∷ []
rows_more j zero v = let e : j + 0 ≡ j = omega arith in ap (λ x. (pos x, v) ∷ []) (sym e)
rows_more j (suc n) v =
    let e : suc j + n ≡ j + suc n = omega arith in
    ap (λ rows. (pos j, v) ∷ rows) (rows_more (suc j) n v ∙ ap (λ x. array_rows (suc j) (replicate n (v ∷ [])) ++ (pos x, v) ∷ []) e)

pub opened_rows : (n : ℕ) (v : ℤ) → array_rows 0 (replicate n (v ∷ [])) ≡ rows_below n v
opened_rows zero v = refl
opened_rows (suc n) v =
    let e : 0 + n ≡ n = omega arith in
    rows_more 0 n v ∙ ap (λ x. array_rows 0 (replicate n (v ∷ [])) ++ (pos x, v) ∷ []) e ∙ ap (λ rows. rows ++ (pos n, v) ∷ []) (opened_rows n v)

-- one part more
pub rows_taken : (j i : ℕ) (c : Parts) → i < length c → array_rows j (take (i + 1) c) ≡ array_rows j (take i c) ++ (pos (j + i), word_of c i 0) ∷ []
rows_taken j i [] l = absurd (omega (arith, l))
rows_taken j zero (ws ∷ c) l = let e : j + 0 ≡ j = omega arith in ap (λ x. (pos x, slice_index_or ws 0 (pos 0)) ∷ []) (sym e)
rows_taken j (suc i) (ws ∷ c) l =
    let e : suc j + i ≡ j + suc i = omega arith in
    let n : suc i + 1 ≡ suc (i + 1) = omega arith in
    ap (λ x. array_rows j (take x (ws ∷ c))) n
    ∙ ap (λ rows. (pos j, slice_index_or ws 0 (pos 0)) ∷ rows) (rows_taken (suc j) i c (omega (arith, l)) ∙ ap (λ x. array_rows (suc j) (take i c) ++ (pos x, word_of c i 0) ∷ []) e)

-- the rows rise
next_above : (j : ℕ) → pos j <ℤ pos (suc j)
next_above j = grind (arith, ints)

rises_from : (j : ℕ) (x : ℤ) (c : Parts) → RisesFrom (pos j, x) (array_rows (suc j) c)
rises_from j x [] = tt
rises_from j x (ws ∷ c) = (next_above j, rises_from (suc j) (slice_index_or ws 0 (pos 0)) c)

pub rows_rise : (j : ℕ) (c : Parts) → IsRising (array_rows j c)
rows_rise j [] = tt
rows_rise j (ws ∷ c) = rises_from j (slice_index_or ws 0 (pos 0)) c

pub one_there : (n i : ℕ) → i < n → slice_get {X = ℕ} (replicate n 1) i ≡ Some 1
one_there zero i l = absurd (omega (arith, l))
one_there (suc n) zero l = refl
one_there (suc n) (suc i) l = one_there n i (omega (arith, l))
