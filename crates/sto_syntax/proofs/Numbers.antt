use Rattle.std.proofs.Common.{◌≡◌, ℕ, zero, suc, ℤ, pos, neg_ℤ, ◌-ℤ◌, negsuc, ◌<◌, ◌^◌, List, [], ◌∷◌, refl, ap, ◌∙◌, sym, arith, None, Some, Bool, true, false, ◌&&◌, cond, lt-ltb, ne_eqb, FitsSigned, w64, subst}
use Rattle.std.specs.Fmt.{signed_decimal}
use Rattle.std.specs.Str.{bytes_eq}
use Rattle.std.specs.Str.Parse.{signed_digits_value, digits_value, AllDigits, without_leading_plus, without_leading_sign, starts_with_minus}
use Rattle.std.proofs.lemmas.Str.Parse.{digit_from_value, numerals_by_value, tells_digits, without_leading_plus_none}
use Rattle.std.proofs.lemmas.Fmt.{decimal-digits_value}
use Rattle.std.proofs.lemmas.Bool.{ltb-true}
use Rattle.std.proofs.lemmas.Str.{IsUtf8-from_ascii}
use Rattle.std.proofs.lemmas.Fmt.{IsAscii-signed}
use Rattle.std.specs.Str.{IsAscii, IsUtf8}
use Rattle.std.proofs.lemmas.Slice.Eq.{bytes_eq-Decides}
use Rattle.std.specs.Int.Signed.{mag}
use Rattle.sto_syntax.specs.Words.{is_i64, number_of, IsNatural}

pub small : (z : ℤ) → is_i64 z ≡ true → mag z < 2 ^ 63
small (pos n) h = ltb-true n (2 ^ 63) h
small (negsuc n) h = ltb-true n (2 ^ 63) h

pub fits : (z : ℤ) → is_i64 z ≡ true → FitsSigned w64 z
fits (pos n) h = grind arith
fits (negsuc n) h = grind arith

refused_at : (z : ℤ) (word : List ℕ) (a b : Bool) → is_i64 z ≡ a → bytes_eq (signed_decimal z) word ≡ b
    → (is_i64 z ≡ true → word ≡ signed_decimal z → ⊥) → cond (a && b) (Some z) None ≡ None
refused_at z word true true e f never = absurd (never e (sym ((bytes_eq-Decides (signed_decimal z) word).0 f)))
refused_at z word true false e f never = refl
refused_at z word false b e f never = refl

pub number_refused : (word : List ℕ) → ((z : ℤ) → is_i64 z ≡ true → word ≡ signed_decimal z → ⊥) → number_of word ≡ None
number_refused word never = let z = signed_digits_value 10 word in refused_at z word (is_i64 z) (bytes_eq (signed_decimal z) word) refl refl (never z)

pub utf8_number : (z : ℤ) (word : List ℕ) → is_i64 z ≡ true → word ≡ signed_decimal z → IsUtf8 word
utf8_number z word h e = IsUtf8-from_ascii word (let P : List ℕ → Type 0 = λ bs. IsAscii bs in subst P (sym e) (IsAscii-signed z (small z h)))

not_minus : (c : ℕ) (cs : List ℕ) → AllDigits 10 (c ∷ cs) → starts_with_minus (c ∷ cs) ≡ false
not_minus c cs d = let k = digit_from_value c d.0 in ne_eqb c 45 (omega (arith, k.0))

not_plus : (c : ℕ) (cs : List ℕ) → AllDigits 10 (c ∷ cs) → without_leading_plus (c ∷ cs) ≡ c ∷ cs
not_plus c cs d = let k = digit_from_value c d.0 in without_leading_plus_none (c ∷ cs) (omega (arith, k.0))

unsigned : (c : ℕ) (cs : List ℕ) → AllDigits 10 (c ∷ cs) → signed_digits_value 10 (c ∷ cs) ≡ pos (digits_value 10 (c ∷ cs))
unsigned c cs d =
    let word : List ℕ = c ∷ cs in
    let bare : without_leading_sign word ≡ word = ap (λ t. cond t cs (without_leading_plus word)) (not_minus c cs d) ∙ not_plus c cs d in
    (λ i. cond (not_minus c cs d i) (neg_ℤ (pos (digits_value 10 (bare i)))) (pos (digits_value 10 (bare i))))

told : (z : ℤ) (word : List ℕ) → is_i64 z ≡ true → signed_decimal z ≡ word → cond (is_i64 z && bytes_eq (signed_decimal z) word) (Some z) None ≡ Some z
told z word small e =
    let same : bytes_eq (signed_decimal z) word ≡ true = (bytes_eq-Decides (signed_decimal z) word).1 e in
    (λ i. cond (small i && same i) (Some z) None)

by_value : (z y : ℤ) (word : List ℕ) → z ≡ y → is_i64 y ≡ true → signed_decimal y ≡ word → cond (is_i64 z && bytes_eq (signed_decimal z) word) (Some z) None ≡ Some y
by_value z y word e small text = ap (λ (x : ℤ). cond (is_i64 x && bytes_eq (signed_decimal x) word) (Some x) None) e ∙ told y word small text

written : (word : List ℕ) (n : ℕ) → IsNatural word n → n < 2 ^ 32 → signed_decimal (pos n) ≡ word
written word n h small =
    ap (λ (k : ℕ). signed_decimal (pos k)) (sym h.value) ∙ decimal-digits_value (numerals_by_value _ tells_digits) word h.digits h.some h.lead (omega (arith, h.value, small))

-- digits with no zero before them are the number that they write
pub natural_number : (word : List ℕ) (n : ℕ) → IsNatural word n → n < 2 ^ 32 → number_of word ≡ Some (pos n)
natural_number [] n h small = absurd (omega (arith, h.some))
natural_number (c ∷ cs) n h small =
    by_value (signed_digits_value 10 (c ∷ cs)) (pos n) (c ∷ cs) (unsigned c cs h.digits ∙ ap pos h.value) (lt-ltb n (2 ^ 63) (omega (arith, small))) (written (c ∷ cs) n h small)

-- and those of a number that is not 0 write its negative after a `-`
pub negative_number : (word : List ℕ) (n : ℕ) → IsNatural word (suc n) → suc n < 2 ^ 32 → number_of (45 ∷ word) ≡ Some (negsuc n)
negative_number word n h small =
    by_value (signed_digits_value 10 (45 ∷ word)) (negsuc n) (45 ∷ word) (ap (λ k. neg_ℤ (pos k)) h.value) (lt-ltb n (2 ^ 63) (omega (arith, small)))
    (ap (λ l. 45 ∷ l) (written word (suc n) h small))

-- the same by what the code computes
pub negative_is : (word : List ℕ) (n : ℕ) (z : ℤ) → IsNatural word n → n < 2 ^ 32 → (n ≡ 0 → ⊥) → z ≡ pos n → number_of (45 ∷ word) ≡ Some (pos 0 -ℤ z)
negative_is word zero z h small some e = absurd (some refl)
negative_is word (suc n) z h small some e =
    let below : negsuc n ≡ pos 0 -ℤ z = grind (arith, e) in
    negative_number word n h small ∙ ap Some below

pub negative_fits : (n : ℕ) (z : ℤ) → n < 2 ^ 32 → z ≡ pos n → FitsSigned w64 z × FitsSigned w64 (pos 0 -ℤ z)
negative_fits n z small e = subst (λ y. FitsSigned w64 y × FitsSigned w64 (pos 0 -ℤ y)) (sym e) (grind arith)
