-- Numbers digit by digit.
use Rattle.std.proofs.Common.{◌≡◌, ℕ, zero, suc, ◌+◌, ◌*◌, ◌<◌, ◌≤◌, ◌^◌, List, [], ◌∷◌, length, drop, get_or, refl, sym, ap, ◌∙◌, arith}
use Rattle.std.specs.Char.{digit_value}
use Rattle.std.specs.Str.Parse.{digits_value, digits_value_after}

-- further digits make no number smaller
grows : (n : ℕ) (cs : List ℕ) → n ≤ digits_value_after 10 n cs
grows n [] = omega arith
grows n (c ∷ cs) = let h = grows (n * 10 + digit_value c) cs in omega (arith, h)

-- one more digit
pub one_digit : (n : ℕ) (xs : List ℕ) (i : ℕ) (d : ℕ) → i < length xs → digits_value_after 10 (n * 10 + digit_value (get_or xs i d)) (drop (i + 1) xs) ≡ digits_value_after 10 n (drop i xs)
one_digit n [] i d l = absurd (omega (arith, l))
one_digit n (x ∷ xs) zero d l = refl
one_digit n (x ∷ xs) (suc i) d l =
    let next : suc i + 1 ≡ suc (i + 1) = omega arith in
    ap (λ (k : ℕ). digits_value_after 10 (n * 10 + digit_value (get_or xs i d)) (drop k (x ∷ xs))) next ∙ one_digit n xs i d (omega (arith, l))

pub too_many : (n : ℕ) (xs : List ℕ) (i : ℕ) (d : ℕ) → i < length xs → 2 ^ 32 ≤ n * 10 + digit_value (get_or xs i d) → 2 ^ 32 ≤ digits_value_after 10 n (drop i xs)
too_many n xs i d l h =
    let more = grows (n * 10 + digit_value (get_or xs i d)) (drop (i + 1) xs) in
    let same = one_digit n xs i d l in
    omega (arith, h, more, same)
