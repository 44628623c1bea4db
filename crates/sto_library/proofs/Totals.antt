-- What rows have together, row by row.
use Rattle.std.specs.Prelude.{option_map, slice_get}
use Rattle.std.proofs.Common.{◌≡◌, ℕ, ℤ, pos, ◌+◌, ◌+ℤ◌, ◌<◌, List, [], ◌∷◌, ◌++◌, length, take, get_or, Some, sym, ap, ◌∙◌, arith}
use Rattle.std.proofs.lemmas.Int.{ints}
use Rattle.std.proofs.lemmas.List.{take_more}
use Rattle.std.proofs.lemmas.Option.{slice_get-get_or}
use Rattle.sto_model.specs.Rows.{Row}
use Rattle.sto_library.specs.Contents.{total}

some_same : (x y : ℤ) → Some x ≡ Some y → x ≡ y
some_same x y h = cc

-- one row more, at the end
pub total_last : (rows : List Row) (row : Row) → total (rows ++ row ∷ []) ≡ total rows +ℤ row.1
total_last [] row = omega (arith, ints)
total_last (first ∷ rows) row = let e = total_last rows row in omega (arith, ints, e)

-- what the rows before a place have together, with the value at that place
pub total_next : (rows : List Row) (i : ℕ) (x : ℤ) → i < length rows → option_map (λ (r : Row). r.1) (slice_get rows i) ≡ Some x
    → total (take i rows) +ℤ x ≡ total (take (i + 1) rows)
total_next rows i x within is =
    let here : Row = get_or rows i (pos 0, x) in
    let same : here.1 ≡ x = some_same here.1 x (sym (ap (option_map (λ (r : Row). r.1)) (slice_get-get_or rows i (pos 0, x) within)) ∙ is) in
    ap (λ v. total (take i rows) +ℤ v) (sym same) ∙ sym (total_last (take i rows) here) ∙ ap total (sym (take_more rows i (pos 0, x) within))
