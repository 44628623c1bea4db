-- Texts that are nothing.
use Rattle.std.proofs.Common.{◌≡◌, ℕ, suc, List, [], ◌∷◌, ◌++◌, length, refl, ap, arith, length-append}

-- nothing has no first byte
pub no_front : {b : ℕ} {bs : List ℕ} → [] ≡ b ∷ bs → ⊥
no_front {b} {bs} e = let n : 0 ≡ suc (length bs) = ap length e in omega (arith, n)

-- what stands before others is nothing, where all is nothing
pub none_before : (xs ys : List ℕ) → [] ≡ xs ++ ys → [] ≡ xs
none_before [] ys e = refl
none_before (x ∷ xs) ys e = absurd (no_front e)

-- what was gained is nothing, where what is held is as it was
pub none_gained : (held text : List ℕ) → held ≡ held ++ text → [] ≡ text
none_gained held [] e = refl
none_gained held (b ∷ bs) e =
    let n : length held ≡ length (held ++ b ∷ bs) = ap length e in absurd (omega (arith, n, length-append held (b ∷ bs)))
