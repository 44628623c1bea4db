-- What a row more, another one and one less make of the rows of an object.
use Rattle.std.specs.List.{All}
use Rattle.std.specs.Ordering.{int_eq}
use Rattle.std.specs.Prelude.{int_le, int_lt, if◌then◌else◌, option_map, find}
use Rattle.std.proofs.Common.{◌≡◌, ℤ, pos, ◌+ℤ◌, ◌<ℤ◌, List, [], ◌∷◌, length, Bool, true, false, ◌&&◌, ◌⊎◌, inl, inr, Option, Some, None, refl, sym, ap, ◌∙◌, subst, arith, true≢false}
use Rattle.std.proofs.lemmas.Int.{ints}
use Rattle.std.proofs.lemmas.Option.{none-some}
use Rattle.std.proofs.lemmas.List.Elements.{All-nil, All-cons, All-head, All-tail}
use Rattle.sto_model.specs.Rows.{Row, IsRising, RisesFrom, with_row, without, rows_between, value_at}
use Rattle.sto_model.proofs.RowFacts.{by_test, IsRising-of, below_of, above_of, not_equal_of, with_row-below, with_row-same, with_row-above, without-here, without-past}
use Rattle.sto_library.specs.Contents.{counted}

-- the row of a key before the first one or after the last one
abbrev pub IsOutside : ℤ → ℤ → Row → Type 0
IsOutside a b r = (r.0 <ℤ a) ⊎ (b <ℤ r.0)

outside_by : (a b : ℤ) (r : Row) (x y : Bool) → int_le a r.0 ≡ x → int_le r.0 b ≡ y → (x && y) ≡ false → IsOutside a b r
outside_by a b r false y e f h = inl (grind (arith, ints, e))
outside_by a b r true false e f h = inr (grind (arith, ints, f))
outside_by a b r true true e f h = absurd (true≢false h)

between_by : (r : Row) (rows : List Row) (a b : ℤ) (c : Bool) → (int_le a r.0 && int_le r.0 b) ≡ c
    → length (if c then r ∷ rows_between rows a b else rows_between rows a b) ≡ 0 → (length (rows_between rows a b) ≡ 0 → All (IsOutside a b) rows) → All (IsOutside a b) (r ∷ rows)
between_by r rows a b true e h rest = absurd (omega (arith, h))
between_by r rows a b false e h rest = All-cons (IsOutside a b) r rows (outside_by a b r (int_le a r.0) (int_le r.0 b) refl refl e) (rest h)

-- where no key is counted from the first one to the last one, each is outside
pub none_between : (rows : List Row) (a b : ℤ) → length (rows_between rows a b) ≡ 0 → All (IsOutside a b) rows
none_between [] a b h = All-nil (IsOutside a b)
none_between (r ∷ rows) a b h = between_by r rows a b (int_le a r.0 && int_le r.0 b) refl h (λ k. none_between rows a b k)

-- the rows with one more
pub all_with : (P : Row → Type 0) (rows : List Row) (k v : ℤ) → All P rows → P (k, v) → All P (with_row rows k v)
all_with P [] k v all here = All-cons P (k, v) [] here all
all_with P (r ∷ rows) k v all here =
    let tail = All-tail P r rows all in
    by_test (int_lt r.0 k) (λ e. subst (All P) (sym (with_row-below r rows k v e)) (All-cons P r (with_row rows k v) (All-head P r rows all) (all_with P rows k v tail here)))
    (λ e. by_test (int_eq r.0 k) (λ f. subst (All P) (sym (with_row-same r rows k v e f)) (All-cons P (k, v) rows here tail))
    (λ f. subst (All P) (sym (with_row-above r rows k v e f)) (All-cons P (k, v) (r ∷ rows) here all)))

-- the rows with one less
pub all_without : (P : Row → Type 0) (rows : List Row) (k : ℤ) → All P rows → All P (without rows k)
all_without P [] k all = all
all_without P (r ∷ rows) k all =
    by_test (int_eq r.0 k) (λ e. subst (All P) (sym (without-here r rows k e)) (All-tail P r rows all))
    (λ e. subst (All P) (sym (without-past r rows k e)) (All-cons P r (without rows k) (All-head P r rows all) (all_without P rows k (All-tail P r rows all))))

-- the value of a key past the first row, and at it
value_past : (r : Row) (rows : List Row) (k : ℤ) → int_eq r.0 k ≡ false → value_at (r ∷ rows) k ≡ value_at rows k
value_past r rows k e = ap (λ (b : Bool). option_map (λ (s : Row). s.1) (if b then Some r else find (λ (s : Row). int_eq s.0 k) rows)) e

value_here : (r : Row) (rows : List Row) (k : ℤ) → int_eq r.0 k ≡ true → value_at (r ∷ rows) k ≡ Some r.1
value_here r rows k e = ap (λ (b : Bool). option_map (λ (s : Row). s.1) (if b then Some r else find (λ (s : Row). int_eq s.0 k) rows)) e

same_value : (x y : ℤ) → Some x ≡ Some y → x ≡ y
same_value x y h = cc

-- what is so of all values is so of that of a key
pub all_at : (P : ℤ → Type 0) (rows : List Row) (k : ℤ) {v : ℤ} → All (λ (r : Row). P r.1) rows → value_at rows k ≡ Some v → P v
all_at P [] k {v} all is = absurd (none-some v is)
all_at P (r ∷ rows) k {v} all is =
    let Q : Row → Type 0 = λ s. P s.1 in
    by_test (int_eq r.0 k) (λ e. subst P (same_value r.1 v (sym (value_here r rows k e) ∙ is)) (All-head Q r rows all))
    (λ e. all_at P rows k (All-tail Q r rows all) (sym (value_past r rows k e) ∙ is))

-- no key stands below the first one
none_below : (r : Row) (rows : List Row) (k : ℤ) → k <ℤ r.0 → RisesFrom r rows → value_at rows k ≡ None
none_below r [] k less rises = refl
none_below r (s ∷ rows) k less rises = value_past s rows k (not_equal_of s.0 k (λ e. grind (arith, ints, less, rises.0, e))) ∙ none_below s rows k (grind (arith, ints, less, rises.0)) rises.1

-- what the values come to together, where that of a key is another one
pub counted_with : (f : ℤ → ℤ) (rows : List Row) (k v old : ℤ) → IsRising rows → value_at rows k ≡ Some old → counted f (with_row rows k v) +ℤ f old ≡ counted f rows +ℤ f v
counted_with f [] k v old rises is = absurd (none-some old is)
counted_with f (r ∷ rows) k v old rises is =
    by_test (int_lt r.0 k) (λ e.
    let past = value_past r rows k (not_equal_of r.0 k (λ same. grind (arith, ints, below_of r.0 k e, same))) in
    let rest = counted_with f rows k v old (IsRising-of r rows rises) (sym past ∙ is) in
    ap (λ (l : List Row). counted f l +ℤ f old) (with_row-below r rows k v e) ∙ omega (arith, ints, rest))
    (λ e. by_test (int_eq r.0 k) (λ here.
    let was : r.1 ≡ old = same_value r.1 old (sym (value_here r rows k here) ∙ is) in
    ap (λ (l : List Row). counted f l +ℤ f old) (with_row-same r rows k v e here) ∙ ap (λ (x : ℤ). (f v +ℤ counted f rows) +ℤ f x) (sym was) ∙ omega (arith, ints))
    (λ other. absurd (none-some old (sym (value_past r rows k other ∙ none_below r rows k (above_of r.0 k e other) rises) ∙ is))))

-- where there is a key more
pub counted_new : (f : ℤ → ℤ) (rows : List Row) (k v : ℤ) → value_at rows k ≡ None → counted f (with_row rows k v) ≡ counted f rows +ℤ f v
counted_new f [] k v none = omega (arith, ints)
counted_new f (r ∷ rows) k v none =
    by_test (int_eq r.0 k) (λ here. absurd (none-some r.1 (sym none ∙ value_here r rows k here)))
    (λ other.
    let rest = counted_new f rows k v (sym (value_past r rows k other) ∙ none) in
    by_test (int_lt r.0 k) (λ e. ap (counted f) (with_row-below r rows k v e) ∙ omega (arith, ints, rest))
    (λ e. ap (counted f) (with_row-above r rows k v e other) ∙ omega (arith, ints)))

-- and where there is one less
pub counted_without : (f : ℤ → ℤ) (rows : List Row) (k old : ℤ) → value_at rows k ≡ Some old → counted f (without rows k) +ℤ f old ≡ counted f rows
counted_without f [] k old is = absurd (none-some old is)
counted_without f (r ∷ rows) k old is =
    by_test (int_eq r.0 k) (λ here.
    let was : r.1 ≡ old = same_value r.1 old (sym (value_here r rows k here) ∙ is) in
    ap (λ (l : List Row). counted f l +ℤ f old) (without-here r rows k here) ∙ ap (λ (x : ℤ). counted f rows +ℤ f x) (sym was) ∙ omega (arith, ints))
    (λ other.
    let rest = counted_without f rows k old (sym (value_past r rows k other) ∙ is) in
    ap (λ (l : List Row). counted f l +ℤ f old) (without-past r rows k other) ∙ omega (arith, ints, rest))
