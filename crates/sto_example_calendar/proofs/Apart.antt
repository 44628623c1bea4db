-- A booking that finds its days free overlaps no other one.
use Rattle.std.specs.List.{All}
use Rattle.std.specs.Ordering.{int_eq}
use Rattle.std.specs.Prelude.{int_lt}
use Rattle.std.proofs.Common.{◌≡◌, ℤ, pos, ◌+ℤ◌, ◌-ℤ◌, List, [], ◌∷◌, length, true, inl, inr, sym, ap, subst, arith, unsigned_abs}
use Rattle.std.proofs.lemmas.Int.{ints}
use Rattle.std.proofs.lemmas.List.Elements.{All-nil, All-head, All-tail, All-weaker}
use Rattle.sto_model.specs.Rows.{Row, with_row, rows_between}
use Rattle.sto_model.proofs.RowFacts.{by_test, same_of, with_row-below, with_row-same, with_row-above}
use Rattle.sto_library.proofs.RowLaws.{IsOutside, none_between, all_with}
use Rattle.sto_example_calendar.specs.Bookings.{AreApart, NoneOverlap}

apart : (day guest : ℤ) (r : Row) → IsOutside (day -ℤ pos 2) (day +ℤ pos 2) r → AreApart r (day, guest) × AreApart (day, guest) r
apart day guest r (inl h) = (inl (grind (arith, ints, h)), inr (grind (arith, ints, h)))
apart day guest r (inr h) = (inr (grind (arith, ints, h)), inl (grind (arith, ints, h)))

none_with : (rows : List Row) (k v : ℤ) → All (λ r. AreApart r (k, v) × AreApart (k, v) r) rows → NoneOverlap rows → NoneOverlap (with_row rows k v)
none_with [] k v all none = (All-nil (AreApart (k, v)), tt)
none_with (r ∷ rows) k v all none =
    let Near : Row → Type 0 = λ s. AreApart s (k, v) × AreApart (k, v) s in
    let here = All-head Near r rows all in
    let tail = All-tail Near r rows all in
    by_test (int_lt r.0 k) (λ e. subst NoneOverlap (sym (with_row-below r rows k v e)) (all_with (AreApart r) rows k v none.0 here.0, none_with rows k v tail none.1))
    (λ e. by_test (int_eq r.0 k) (λ f. subst NoneOverlap (sym (with_row-same r rows k v e f)) (All-weaker Near (AreApart (k, v)) (λ s h. h.1) rows tail, none.1))
    (λ f. subst NoneOverlap (sym (with_row-above r rows k v e f)) (All-weaker Near (AreApart (k, v)) (λ s h. h.1) (r ∷ rows) all, none)))

-- a booking whose days are free leaves no two that overlap
pub booked : (day guest : ℤ) (rows : List Row) → int_eq (pos (length (rows_between rows (day -ℤ pos 2) (day +ℤ pos 2)))) (pos 0) ≡ true → NoneOverlap rows
    → NoneOverlap (with_row rows day guest)
booked day guest rows free none =
    let few : length (rows_between rows (day -ℤ pos 2) (day +ℤ pos 2)) ≡ 0 = ap unsigned_abs (same_of (pos (length (rows_between rows (day -ℤ pos 2) (day +ℤ pos 2)))) (pos 0) free) in
    none_with rows day guest (All-weaker (IsOutside (day -ℤ pos 2) (day +ℤ pos 2)) (λ r. AreApart r (day, guest) × AreApart (day, guest) r) (apart day guest) rows
    (none_between rows (day -ℤ pos 2) (day +ℤ pos 2) few)) none
