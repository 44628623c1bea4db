-- The parts of a hash table: their widths, which are which, and what an update leaves of them.
use Rattle.std.specs.Prelude.{◌≡◌, ◌<◌, ◌≤◌, ◌+◌, ◌*◌, ℕ, zero, suc, ℤ, pos, negsuc, Some, List, [], ◌∷◌, ◌++◌, map, length, replicate, slice_index_or, slice_set, slice_get, refl}
use Rattle.std.specs.Int.{w64}
use Rattle.std.specs.Int.RustNames.{FitsSigned}
use Rattle.std.proofs.Common.{ap, sym, ◌∙◌, arith, inl, inr, length-append}
use Rattle.std.proofs.lemmas.Bool.{cases_lt}
use Rattle.std.proofs.Math.Nat.{mod-lt, mul-le-mul_right}
use Rattle.sto_part.specs.Parts.{part_of}
use Rattle.sto_item.specs.Agreement.{word_of}
use Rattle.sto_type.specs.Known.{Parts, WordsFit, ContentsFit}
use Rattle.sto_hash.specs.Hashed.{bucket_part, bucket_number, bucket_widths, hash_widths, homes_from}

-- a bucket's number is below that of buckets
pub bucket_below : (buckets : ℕ) (k : ℤ) → 0 < buckets → bucket_number buckets k < buckets
bucket_below buckets (pos a) l = mod-lt a l
bucket_below buckets (negsuc a) l = omega (arith, l)

-- lists joined
get_past : (xs ys : List ℕ) (i : ℕ) → slice_index_or (xs ++ ys) (length xs + i) 0 ≡ slice_index_or ys i 0
get_past [] ys i = let z : 0 + i ≡ i = omega arith in ap (λ x. slice_index_or ys x 0) z
get_past (x ∷ xs) ys i = let z : suc (length xs) + i ≡ suc (length xs + i) = omega arith in ap (λ n. slice_index_or (x ∷ xs ++ ys) n 0) z ∙ get_past xs ys i

get_front : (xs ys : List ℕ) (i : ℕ) → i < length xs → slice_index_or (xs ++ ys) i 0 ≡ slice_index_or xs i 0
get_front [] ys i l = absurd (omega (arith, l))
get_front (x ∷ xs) ys zero l = refl
get_front (x ∷ xs) ys (suc i) l = get_front xs ys i (omega (arith, l))

length-ones : (n : ℕ) → length {A = ℕ} (replicate n 1) ≡ n
length-ones zero = refl
length-ones (suc n) = ap suc (length-ones n)

pub one_at : (n i : ℕ) → i < n → slice_index_or {A = ℕ} (replicate n 1) i 0 ≡ 1
one_at zero i l = absurd (omega (arith, l))
one_at (suc n) zero l = refl
one_at (suc n) (suc i) l = one_at n i (omega (arith, l))

-- how many parts there are
pub length-widths : (n places : ℕ) → length (hash_widths n places) ≡ n * (1 + places)
length-widths zero places = omega arith
length-widths (suc n) places = omega (arith, length-append (bucket_widths places) (hash_widths n places), length-ones places, length-widths n places)

next_bucket : (b places r : ℕ) → suc b * (1 + places) + r ≡ suc places + (b * (1 + places) + r)
next_bucket b places r = omega arith

-- the width of part r of the bucket b
pub width_at : (n places b r : ℕ) → b < n → r ≤ places → slice_index_or (hash_widths n places) (b * (1 + places) + r) 0 ≡ slice_index_or (bucket_widths places) r 0
width_at zero places b r l m = absurd (omega (arith, l))
width_at (suc n) places zero r l m =
    let z : 0 * (1 + places) + r ≡ r = omega arith in
    ap (λ x. slice_index_or (bucket_widths places ++ hash_widths n places) x 0) z ∙ get_front (bucket_widths places) (hash_widths n places) r (omega (arith, m, length-ones places))
width_at (suc n) places (suc b) r l m =
    let long : suc places ≡ length (bucket_widths places) = ap suc (sym (length-ones places)) in
    ap (λ x. slice_index_or (bucket_widths places ++ hash_widths n places) x 0) (next_bucket b places r ∙ ap (λ x. x + (b * (1 + places) + r)) long)
    ∙ get_past (bucket_widths places) (hash_widths n places) (b * (1 + places) + r) ∙ width_at n places b r (omega (arith, l)) m

pub part_below : (n places b r : ℕ) → b < n → r ≤ places → b * (1 + places) + r < n * (1 + places)
part_below n places b r l m = let h : suc b * (1 + places) ≤ n * (1 + places) = mul-le-mul_right (1 + places) l in omega (arith, h, m)

width_of : (c : Parts) (p : ℕ) → length (part_of c p) ≡ slice_index_or (map length c) p 0
width_of [] zero = refl
width_of [] (suc p) = refl
width_of (ws ∷ c) zero = refl
width_of (ws ∷ c) (suc p) = width_of c p

length-map_length : (c : Parts) → length (map length c) ≡ length c
length-map_length [] = refl
length-map_length (ws ∷ c) = ap suc (length-map_length c)

one_word : (ws : List ℤ) → length ws ≡ 1 → ws ≡ slice_index_or ws 0 (pos 0) ∷ []
one_word [] e = cc
one_word (x ∷ []) e = refl
one_word (x ∷ y ∷ ws) e = absurd (omega (arith, e))

module _ (buckets places : ℕ) (c : Parts) (w : map length c ≡ hash_widths buckets places) where
  pub many_parts : length c ≡ buckets * (1 + places)
  many_parts = sym (length-map_length c) ∙ ap length w ∙ length-widths buckets places

  pub part_there : (b r : ℕ) → b < buckets → r ≤ places → b * (1 + places) + r < length c
  part_there b r l m = let h : b * (1 + places) + r < buckets * (1 + places) = part_below buckets places b r l m in omega (arith, h, many_parts)

  pub key_width : (b : ℕ) → b < buckets → length (part_of c (bucket_part places b)) ≡ 2 * places
  key_width b l =
      let z : bucket_part places b ≡ b * (1 + places) + 0 = omega arith in
      width_of c (bucket_part places b) ∙ (λ i. slice_index_or (w i) (z i) 0) ∙ width_at buckets places b 0 l (omega arith)

  pub value_width : (b i : ℕ) → b < buckets → i < places → length (part_of c (bucket_part places b + 1 + i)) ≡ 1
  value_width b i l m =
      let z : bucket_part places b + 1 + i ≡ b * (1 + places) + suc i = omega arith in
      width_of c (bucket_part places b + 1 + i) ∙ (λ x. slice_index_or (w x) (z x) 0) ∙ width_at buckets places b (suc i) l (omega (arith, m)) ∙ one_at places i m

  pub value_is_word : (b i : ℕ) → b < buckets → i < places → part_of c (bucket_part places b + 1 + i) ≡ word_of c (bucket_part places b + 1 + i) 0 ∷ []
  value_is_word b i l m = one_word (part_of c (bucket_part places b + 1 + i)) (value_width b i l m)

-- two parts are one only as the same part of the same bucket
pub same_parts : (places b r x s : ℕ) → r ≤ places → s ≤ places → b * (1 + places) + r ≡ x * (1 + places) + s → (b ≡ x) × (r ≡ s)
same_parts places b r x s l m e = elim (cases_lt b x) [
  | inl q ↦ let h : suc b * (1 + places) ≤ x * (1 + places) = mul-le-mul_right (1 + places) q in absurd (omega (arith, h, l, e))
  | inr q ↦ elim (cases_lt x b) [
    | inl z ↦ let h : suc x * (1 + places) ≤ b * (1 + places) = mul-le-mul_right (1 + places) z in absurd (omega (arith, h, m, e))
    | inr z ↦
        let same : b ≡ x = omega (arith, q, z) in
        let f : b * (1 + places) ≡ x * (1 + places) = ap (λ y. y * (1 + places)) same in
        (same, omega (arith, e, f))
  ]
]

-- one part replaced
pub part_set : (c : Parts) (p : ℕ) (ws : List ℤ) → p < length c → part_of (slice_set c p ws) p ≡ ws
part_set [] p ws l = absurd (omega (arith, l))
part_set (x ∷ c) zero ws l = refl
part_set (x ∷ c) (suc p) ws l = part_set c p ws (omega (arith, l))

pub part_else : (c : Parts) (p q : ℕ) (ws : List ℤ) → (p ≡ q → ⊥) → part_of (slice_set c p ws) q ≡ part_of c q
part_else [] p q ws n = refl
part_else (x ∷ c) zero zero ws n = absurd (n refl)
part_else (x ∷ c) zero (suc q) ws n = refl
part_else (x ∷ c) (suc p) zero ws n = refl
part_else (x ∷ c) (suc p) (suc q) ws n = part_else c p q ws (λ e. n (ap suc e))

pub widths_set : (c : Parts) (p : ℕ) (ws : List ℤ) → length ws ≡ length (part_of c p) → map length (slice_set c p ws) ≡ map length c
widths_set [] p ws e = refl
widths_set (x ∷ c) zero ws e = ap (λ l. l ∷ map length c) e
widths_set (x ∷ c) (suc p) ws e = ap (λ l. length x ∷ l) (widths_set c p ws e)

pub fits_set : (c : Parts) (p : ℕ) (ws : List ℤ) → WordsFit ws → ContentsFit c → ContentsFit (slice_set c p ws)
fits_set [] p ws f h = tt
fits_set (x ∷ c) zero ws f h = (f, h.1)
fits_set (x ∷ c) (suc p) ws f h = (h.0, fits_set c p ws f h.1)

pub words_fit : (c : Parts) (p : ℕ) → ContentsFit c → WordsFit (part_of c p)
words_fit [] zero h = tt
words_fit [] (suc p) h = tt
words_fit (x ∷ c) zero h = h.0
words_fit (x ∷ c) (suc p) h = words_fit c p h.1

pub fit_set : (ws : List ℤ) (i : ℕ) (x : ℤ) → FitsSigned w64 x → WordsFit ws → WordsFit (slice_set ws i x)
fit_set [] i x f h = tt
fit_set (w ∷ ws) zero x f h = (f, h.1)
fit_set (w ∷ ws) (suc i) x f h = (h.0, fit_set ws i x f h.1)

pub word_fit : (ws : List ℤ) (i : ℕ) → WordsFit ws → FitsSigned w64 (slice_index_or ws i (pos 0))
word_fit [] zero h = record { sfits = omega arith }
word_fit [] (suc i) h = record { sfits = omega arith }
word_fit (w ∷ ws) zero h = h.0
word_fit (w ∷ ws) (suc i) h = word_fit ws i h.1

-- the homes
pub length-homes : (j n : ℕ) → length (homes_from j n) ≡ n
length-homes j zero = refl
length-homes j (suc n) = ap suc (length-homes (suc j) n)

pub home_there : (j n i : ℕ) → i < n → slice_get (homes_from j n) i ≡ Some (0, j + i)
home_there j zero i l = absurd (omega (arith, l))
home_there j (suc n) zero l = let e : j + 0 ≡ j = omega arith in ap (λ x. Some (0, x)) (sym e)
home_there j (suc n) (suc i) l = let e : suc j + i ≡ j + suc i = omega arith in home_there (suc j) n i (omega (arith, l)) ∙ ap (λ x. Some (0, x)) e

pub home_owner : (j n i : ℕ) → i < n → (slice_index_or (homes_from j n) i (0, 0)).0 ≡ 0
home_owner j zero i l = absurd (omega (arith, l))
home_owner j (suc n) zero l = refl
home_owner j (suc n) (suc i) l = home_owner (suc j) n i (omega (arith, l))
