-- The values along a ring.
use Rattle.std.specs.Prelude.{◌≡◌, ◌<◌, ◌≤◌, ◌+◌, ℕ, zero, suc, ℤ, pos, Bool, true, false, nat_lt, [], ◌∷◌, ◌++◌, length, refl}
use Rattle.std.specs.Ordering.{int_eq}
use Rattle.std.proofs.Common.{ap, sym, ◌∙◌, arith}
use Rattle.std.proofs.lemmas.Bool.Decides.{nat_tests}
use Rattle.sto_part.specs.Parts.{part_of}
use Rattle.sto_type.specs.Known.{Parts}
use Rattle.sto_type.specs.Numbered.{numbered}
use Rattle.sto_type.specs.Words.{word}
use Rattle.sto_container.specs.Places.{wrapped, next, offset, next_below, next_wrapped, natural, is_live}
use Rattle.sto_ring.specs.LivePlaces.{size_by, size_known, head_live}
use Rattle.sto_ring.specs.Ringed.{bit, place_part, along, head_of, tail_of, size_of, ring_rows, IsRing}

pub bit_live : (b : Bool) → int_eq (bit b) (pos 1) ≡ b
bit_live true = refl
bit_live false = refl

abbrev pub value_at : Parts → ℕ → ℤ
value_at c i = word (part_of c (place_part i)) 1

wrapped_here : (n h : ℕ) → h < n → wrapped n (h + 0) ≡ h
wrapped_here n h l = grind (arith, nat_tests)

pub length-along : (n : ℕ) (c : Parts) (h s : ℕ) → length (along n c h s) ≡ s
length-along n c h zero = refl
length-along n c h (suc s) = ap suc (length-along n c (next n h) s)

-- places with the same values
pub along-same : (n : ℕ) (c d : Parts) (h s : ℕ) → h < n → s ≤ n → ((j : ℕ) → j < s → value_at c (wrapped n (h + j)) ≡ value_at d (wrapped n (h + j))) → along n c h s ≡ along n d h s
along-same n c d h zero l m e = refl
along-same n c d h (suc s) l m e =
    let here : value_at c h ≡ value_at d h = ap (value_at c) (sym (wrapped_here n h l)) ∙ e 0 (omega arith) ∙ ap (value_at d) (wrapped_here n h l) in
    let rest : along n c (next n h) s ≡ along n d (next n h) s =
    along-same n c d (next n h) s (next_below n h l) (omega (arith, m))
    (λ j b.
    let w : wrapped n (next n h + j) ≡ wrapped n (h + suc j) = next_wrapped n h j l (omega (arith, b, m)) in
    ap (value_at c) w ∙ e (suc j) (omega (arith, b)) ∙ ap (value_at d) (sym w))
    in
    λ i. here i ∷ rest i

-- one place more
pub along-more : (n : ℕ) (c : Parts) (h s : ℕ) → h < n → s < n → along n c h (suc s) ≡ along n c h s ++ value_at c (wrapped n (h + s)) ∷ []
along-more n c h zero l m = ap (λ i. value_at c i ∷ []) (sym (wrapped_here n h l))
along-more n c h (suc s) l m =
    ap (λ xs. value_at c h ∷ xs)
    (along-more n c (next n h) s (next_below n h l) (omega (arith, m)) ∙ ap (λ i. along n c (next n h) s ++ value_at c i ∷ []) (next_wrapped n h s l (omega (arith, m))))

-- what valid contents stand for
module _ (n : ℕ) (c : Parts) (v : IsRing n c) where
  pub head_is : head_of c ≡ v.first
  head_is = ap natural v.head

  pub tail_is : tail_of c ≡ wrapped n (v.first + v.size)
  tail_is = ap natural v.tail

  pub live_is : (i : ℕ) → i < n → is_live (part_of c (place_part i)) ≡ nat_lt (offset n v.first i) v.size
  live_is i l = ap (λ x. int_eq x (pos 1)) (v.lives i l) ∙ bit_live (nat_lt (offset n v.first i) v.size)

  pub size_is : size_of n c ≡ v.size
  size_is =
      ap (λ h. size_by n h (tail_of c) (is_live (part_of c (place_part h)))) head_is ∙ ap (λ t. size_by n v.first t (is_live (part_of c (place_part v.first)))) tail_is
      ∙ ap (size_by n v.first (wrapped n (v.first + v.size))) (live_is v.first v.below ∙ head_live n v.first v.size) ∙ size_known n v.first v.size v.below v.few

  pub rows_are : ring_rows n c ≡ numbered 0 (along n c v.first v.size)
  rows_are = ap (λ h. numbered 0 (along n c h (size_of n c))) head_is ∙ ap (λ s. numbered 0 (along n c v.first s)) size_is
