-- Names that all differ, with one more; and the names of threads of version 1.
use Rattle.std.proofs.Common.{◌≡◌, ◌+◌, ◌≤◌, ◌<◌, ℕ, zero, suc, List, [], ◌∷◌, ◌++◌, length, refl, ap, sym, ◌∙◌, arith, Bool, true, false, ◌||◌, ◌&&◌, is_some, position, map, nat_lt, decimal}
use Rattle.std.specs.Fmt.{digits}
use Rattle.std.specs.Str.{bytes_eq}
use Rattle.std.specs.List.{list_any, position_or_len}
use Rattle.std.specs.Str.Parse.{digits_value}
use Rattle.std.proofs.lemmas.Bool.Decides.{nat_tests}
use Rattle.std.proofs.lemmas.Slice.Eq.{bytes_eq-Decides}
use Rattle.std.proofs.lemmas.Fmt.{decimal_is_IsNumeral}
use Rattle.std.proofs.lemmas.List.Sums.{fails_before_first}
use Rattle.std.proofs.lemmas.List.Folds.{list_any_none, list_any-append}
use Rattle.sto_syntax.specs.Words.{is_name}
use Rattle.sto_lang.specs.Drafts.{numbered_name}
use Rattle.sto_lang.specs.Sound.{AllDiffer, numbered_from}

missed : {X : Type 0} (p : X → Bool) (xs : List X) → is_some (position p xs) ≡ false → length xs ≤ position_or_len p xs
missed p xs e = grind (arith, nat_tests)

-- where none is found, none passes
pub fresh : {X : Type 0} (p : X → Bool) (xs : List X) → is_some (position p xs) ≡ false → list_any p xs ≡ false
fresh p xs e = list_any_none p xs (λ k d l. fails_before_first p xs k d (omega (arith, missed p xs e, l)))

pub list_any_map : {X Y : Type 0} (p : Y → Bool) (f : X → Y) (xs : List X) → list_any p (map f xs) ≡ list_any (λ x. p (f x)) xs
list_any_map p f [] = refl
list_any_map p f (x ∷ xs) = ap (λ b. p (f x) || b) (list_any_map p f xs)

turned : (n q : List ℕ) (b c : Bool) → bytes_eq n q ≡ b → bytes_eq q n ≡ c → b ≡ false → c ≡ false
turned n q b false e f h = refl
turned n q b true e f h = absurd (let back : n ≡ q = sym ((bytes_eq-Decides q n).0 f) in let same : bytes_eq n q ≡ true = (bytes_eq-Decides n q).1 back in cc)

neither : (a b : Bool) → (a || b) ≡ false → (a ≡ false) × (b ≡ false)
neither true b e = absurd (cc)
neither false b e = (refl, e)

both_not : (a b : Bool) → a ≡ false → b ≡ false → (a || b) ≡ false
both_not a b e f = (λ i. e i || f i)

-- one more name that is none of them
pub differ_push : (names : List (List ℕ)) (n : List ℕ) → list_any (bytes_eq n) names ≡ false → AllDiffer names → AllDiffer (names ++ n ∷ [])
differ_push [] n e h = (refl, tt)
differ_push (m ∷ names) n e h =
    let parts = neither (bytes_eq n m) (list_any (bytes_eq n) names) e in (
      list_any-append (bytes_eq m) names (n ∷ []) ∙ both_not (list_any (bytes_eq m) names) (bytes_eq m n || false) h.0 (both_not (bytes_eq m n) false (turned n m (bytes_eq n m) (bytes_eq m n) refl refl parts.0) refl),
      differ_push names n parts.1 h.1,
    )

pub numbers_push : (first count : ℕ) → numbered_from first (suc count) ≡ numbered_from first count ++ numbered_name (first + count) ∷ []
numbers_push first zero = ap (λ (n : ℕ). numbered_name n ∷ []) (omega arith)
numbers_push first (suc count) = ap (λ l. numbered_name first ∷ l) (numbers_push (suc first) count ∙ ap (λ (n : ℕ). numbered_from (suc first) count ++ numbered_name n ∷ []) (omega arith))

pub numbers_last : (count : ℕ) → numbered_from 0 (suc count) ≡ numbered_from 0 count ++ numbered_name count ∷ []
numbers_last count = numbers_push 0 count ∙ ap (λ (n : ℕ). numbered_from 0 count ++ numbered_name n ∷ []) (omega arith)

apart : (m n : ℕ) → m < n → n < 64 → (b : Bool) → bytes_eq (numbered_name n) (numbered_name m) ≡ b → b ≡ false
apart m n l h false e = refl
apart m n l h true e =
    let same : numbered_name n ≡ numbered_name m = (bytes_eq-Decides (numbered_name n) (numbered_name m)).0 e in
    let digits : decimal n ≡ decimal m = cc in
    absurd (omega (arith, l, sym (decimal_is_IsNumeral n (omega (arith, h))).1 ∙ ap (digits_value 10) digits ∙ (decimal_is_IsNumeral m (omega (arith, h, l))).1))

none_from : (n first count : ℕ) → first + count ≤ n → n < 64 → list_any (bytes_eq (numbered_name n)) (numbered_from first count) ≡ false
none_from n first zero l h = refl
none_from n first (suc count) l h =
    both_not (bytes_eq (numbered_name n) (numbered_name first)) (list_any (bytes_eq (numbered_name n)) (numbered_from (suc first) count))
    (apart first n (omega (arith, l)) h (bytes_eq (numbered_name n) (numbered_name first)) refl) (none_from n (suc first) count (omega (arith, l)) h)

pub numbers_differ : (n : ℕ) → n + 1 ≤ 64 → list_any (bytes_eq (numbered_name n)) (numbered_from 0 n) ≡ false
numbers_differ n h = none_from n 0 n (omega arith) (omega (arith, h))

-- the names of 64 threads, each computed
abbrev all_named : ℕ → Bool
all_named zero = true
all_named (suc n) = is_name (numbered_name n) && all_named n

both : (a b : Bool) → (a && b) ≡ true → (a ≡ true) × (b ≡ true)
both true b e = (refl, e)
both false b e = absurd (cc)

is_below : (n count : ℕ) → nat_lt n count ≡ true → n < count
is_below n count e = grind (arith, nat_tests)

is_last : (n count : ℕ) → nat_lt n count ≡ false → n < suc count → count ≡ n
is_last n count e l = grind (arith, nat_tests)

by_test : (n count : ℕ) (lower : Bool) → nat_lt n count ≡ lower → n < suc count → is_name (numbered_name count) ≡ true → (n < count → is_name (numbered_name n) ≡ true) → is_name (numbered_name n) ≡ true
by_test n count true e l named earlier = earlier (is_below n count e)
by_test n count false e l named earlier = ap (λ (m : ℕ). is_name (numbered_name m)) (sym (is_last n count e l)) ∙ named

one_of : (n count : ℕ) → n < count → all_named count ≡ true → is_name (numbered_name n) ≡ true
one_of n zero l e = absurd (omega (arith, l))
one_of n (suc count) l e =
    let parts = both (is_name (numbered_name count)) (all_named count) e in
    by_test n count (nat_lt n count) refl l parts.0 (λ h. one_of n count h parts.1)

all_64 : all_named 64 ≡ true
unfolding digits
all_64 = refl

pub numbers_name : (n : ℕ) → n + 1 ≤ 64 → is_name (numbered_name n) ≡ true
numbers_name n h = one_of n 64 (omega (arith, h)) all_64
