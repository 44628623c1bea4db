-- The widths of parts that stand one behind the other.
use Rattle.std.specs.Prelude.{◌≡◌, ◌<◌, ◌+◌, ℕ, zero, suc, ℤ, List, [], ◌∷◌, ◌++◌, map, length, replicate, slice_index_or, refl}
use Rattle.std.proofs.Common.{ap, ◌∙◌, arith}
use Rattle.sto_part.specs.Parts.{part_of}
use Rattle.sto_type.specs.Known.{Parts}
use Rattle.sto_type.specs.Words.{word}

-- widths one behind the other
pub length_same : (n x : ℕ) → length (replicate {A = ℕ} n x) ≡ n
length_same zero x = refl
length_same (suc n) x = ap suc (length_same n x)

pub past_front : (n x : ℕ) (ys : List ℕ) (i : ℕ) → slice_index_or (replicate n x ++ ys) (n + i) 0 ≡ slice_index_or ys i 0
past_front zero x ys i = let e : 0 + i ≡ i = omega arith in ap (λ j. slice_index_or ys j 0) e
past_front (suc n) x ys i = let e : suc n + i ≡ suc (n + i) = omega arith in ap (λ j. slice_index_or (x ∷ replicate n x ++ ys) j 0) e ∙ past_front n x ys i

pub in_last : (n x i : ℕ) → i < n → slice_index_or {A = ℕ} (replicate n x) i 0 ≡ x
in_last zero x i l = absurd (omega (arith, l))
in_last (suc n) x zero l = refl
in_last (suc n) x (suc i) l = in_last n x i (omega (arith, l))

pub long_front : (n x : ℕ) (ys : List ℕ) → length (replicate n x ++ ys) ≡ n + length ys
long_front zero x ys = omega arith
long_front (suc n) x ys = omega (arith, long_front n x ys)

pub width_there : (c : Parts) (ws : List ℕ) (p : ℕ) → map length c ≡ ws → p < length ws → (p < length c) × (length (part_of c p) ≡ slice_index_or ws p 0)
width_there [] [] p e l = absurd (omega (arith, l))
width_there [] (w ∷ ws) p e l = cc
width_there (x ∷ c) [] p e l = cc
width_there (x ∷ c) (w ∷ ws) zero e l = (omega arith, heads e)
  where
    heads : length x ∷ map length c ≡ w ∷ ws → length x ≡ w
    heads f = cc
width_there (x ∷ c) (w ∷ ws) (suc p) e l = let r : (p < length c) × (length (part_of c p) ≡ slice_index_or ws p 0) = width_there c ws p (tails e) (omega (arith, l)) in (omega (arith, r.0), r.1)
  where
    tails : length x ∷ map length c ≡ w ∷ ws → map length c ≡ ws
    tails f = cc

pub one_word : (ws : List ℤ) → length ws ≡ 1 → ws ≡ word ws 0 ∷ []
one_word [] e = cc
one_word (x ∷ []) e = refl
one_word (x ∷ y ∷ ws) e = absurd (omega (arith, e))
