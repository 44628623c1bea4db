-- Places among other parts, and the rows of one place more.
use Rattle.std.proofs.Common.{◌≡◌, ◌<◌, ◌≤◌, ◌+◌, ◌-◌, ◌*◌, ◌++◌, ◌⊎◌, inl, inr, replicate, ◌∷◌, ℕ, zero, suc, ℤ, true, false, Some, List, [], length, take, drop, slice_get, refl, ap, sym, ◌∙◌, arith, append_assoc}
use Rattle.std.specs.Prelude.{if◌then◌else◌, pos}
use Rattle.std.proofs.lemmas.List.{length-map, length-take, length-drop, get_or-take, get_or-drop}
use Rattle.sto_part.specs.Parts.{part_of}
use Rattle.sto_model.specs.Rows.{with_row}
use Rattle.sto_type.specs.Known.{Parts}
use Rattle.sto_type.specs.Words.{word}
use Rattle.sto_map.specs.Opening.{rooms_from}
use Rattle.sto_container.specs.Places.{is_live}
use Rattle.sto_map.specs.Mapped.{Sizes, key_part, value_part, key_of, placed, map_rows, map_widths, IsMap}
use Rattle.sto_map.specs.Widths.{length_same, long_front}

part_is : (c : Parts) (p : ℕ) (ws : List ℤ) → slice_get c p ≡ Some ws → part_of c p ≡ ws
part_is [] p ws e = cc
part_is (x ∷ c) zero ws e = cc
part_is (x ∷ c) (suc p) ws e = part_is c p ws e

pub there : (first p : ℕ) (c : Parts) (ws : List ℤ) → slice_get c (first + p) ≡ Some ws → part_of (drop first c) p ≡ ws
there first p c ws e = get_or-drop first c p [] ∙ part_is c (first + p) ws e

module _ (z : Sizes) (c : Parts) (n : ℕ) (ws : List ℤ) (key : part_of c (key_part z n) ≡ ws) where
  pub placed_live : (vs : List ℤ) → part_of c (value_part z n) ≡ vs → is_live ws ≡ true → placed z c (suc n) ≡ with_row (placed z c n) (word ws 1) (word vs 0)
  placed_live vs value h =
      (λ i. if is_live (key i) then with_row (placed z c n) (key_of (key i)) (word (value i) 0) else placed z c n)
      ∙ ap (λ b. if b then with_row (placed z c n) (word ws 1) (word vs 0) else placed z c n) h

  pub placed_dead : is_live ws ≡ false → placed z c (suc n) ≡ placed z c n
  placed_dead h =
      (λ i. if is_live (key i) then with_row (placed z c n) (key_of (part_of c (key_part z n))) (word (part_of c (value_part z n)) 0) else placed z c n)
      ∙ ap (λ b. if b then with_row (placed z c n) (key_of (part_of c (key_part z n))) (word (part_of c (value_part z n)) 0) else placed z c n) h

-- the rows of the type's own parts
pub placed_own : (z : Sizes) (m : ℕ) (c : Parts) (n : ℕ) → n ≤ z.places → z.stripes + 3 * z.places ≤ m → placed z c n ≡ placed z (take m c) n
placed_own z m c zero l few = refl
placed_own z m c (suc n) l few =
    let key : part_of c (key_part z n) ≡ part_of (take m c) (key_part z n) = sym (get_or-take m c (key_part z n) [] (omega (arith, l, few))) in
    let value : part_of c (value_part z n) ≡ part_of (take m c) (value_part z n) = sym (get_or-take m c (value_part z n) [] (omega (arith, l, few))) in
    let rest : placed z c n ≡ placed z (take m c) n = placed_own z m c n (omega (arith, l)) few in
    λ i. if is_live (key i) then with_row (rest i) (key_of (key i)) (word (value i) 0) else rest i

-- one room more
pub one_room : (room : ℕ → ℕ) (xs all : Parts) (s left : ℕ) → xs ++ rooms_from room s (suc left) ≡ all → (xs ++ (pos (room s) ∷ []) ∷ []) ++ rooms_from room (suc s) left ≡ all
one_room room xs all s left e = append_assoc xs ((pos (room s) ∷ []) ∷ []) (rooms_from room (suc s) left) ∙ e

-- the widths of the parts
pub widths_long : (z : Sizes) → length (map_widths z) ≡ z.stripes + 3 * z.places
widths_long z =
    omega (arith, long_front z.stripes 1 (replicate z.places 2 ++ (replicate z.places 1 ++ replicate z.places 1)), long_front z.places 2 (replicate z.places 1 ++ replicate z.places 1), long_front z.places 1 (replicate z.places 1), length_same z.places 1)

get_front : (n x : ℕ) (ys : List ℕ) (i : ℕ) → i < n → slice_get (replicate n x ++ ys) i ≡ Some x
get_front zero x ys i l = absurd (omega (arith, l))
get_front (suc n) x ys zero l = refl
get_front (suc n) x ys (suc i) l = get_front n x ys i (omega (arith, l))

get_past : (n x : ℕ) (ys : List ℕ) (i : ℕ) → slice_get (replicate n x ++ ys) (n + i) ≡ slice_get ys i
get_past zero x ys i = let e : 0 + i ≡ i = omega arith in ap (slice_get ys) e
get_past (suc n) x ys i = let e : suc n + i ≡ suc (n + i) = omega arith in ap (slice_get (x ∷ replicate n x ++ ys)) e ∙ get_past n x ys i

get_last : (n x i : ℕ) → i < n → slice_get (replicate {A = ℕ} n x) i ≡ Some x
get_last zero x i l = absurd (omega (arith, l))
get_last (suc n) x zero l = refl
get_last (suc n) x (suc i) l = get_last n x i (omega (arith, l))

pub width_room : (z : Sizes) (i : ℕ) → i < z.stripes → slice_get (map_widths z) i ≡ Some 1
width_room z i l = get_front z.stripes 1 (replicate z.places 2 ++ (replicate z.places 1 ++ replicate z.places 1)) i l

pub width_key : (z : Sizes) (i : ℕ) → z.stripes ≤ i → i < z.stripes + z.places → slice_get (map_widths z) i ≡ Some 2
width_key z i low l =
    let e : i ≡ z.stripes + (i - z.stripes) = omega (arith, low) in
    ap (slice_get (map_widths z)) e ∙ get_past z.stripes 1 (replicate z.places 2 ++ (replicate z.places 1 ++ replicate z.places 1)) (i - z.stripes)
    ∙ get_front z.places 2 (replicate z.places 1 ++ replicate z.places 1) (i - z.stripes) (omega (arith, low, l))

last_two : (n i : ℕ) → i < n + n → slice_get (replicate {A = ℕ} n 1 ++ replicate n 1) i ≡ Some 1
last_two n i l = elim (low_or_high n i l) [
  | inl low ↦ get_front n 1 (replicate n 1) i low
  | inr high ↦ let e : i ≡ n + (i - n) = omega (arith, high.0) in ap (slice_get (replicate {A = ℕ} n 1 ++ replicate n 1)) e ∙ get_past n 1 (replicate n 1) (i - n) ∙ get_last n 1 (i - n) (omega (arith, high.0, high.1))
]
  where
    low_or_high : (m j : ℕ) → j < m + m → (j < m) ⊎ ((m ≤ j) × (j < m + m))
    low_or_high m j b = grind arith

pub width_rest : (z : Sizes) (i : ℕ) → z.stripes + z.places ≤ i → i < z.stripes + 3 * z.places → slice_get (map_widths z) i ≡ Some 1
width_rest z i low l =
    let e : i ≡ z.stripes + (z.places + (i - (z.stripes + z.places))) = omega (arith, low) in
    ap (slice_get (map_widths z)) e ∙ get_past z.stripes 1 (replicate z.places 2 ++ (replicate z.places 1 ++ replicate z.places 1)) (z.places + (i - (z.stripes + z.places)))
    ∙ get_past z.places 2 (replicate z.places 1 ++ replicate z.places 1) (i - (z.stripes + z.places)) ∙ last_two z.places (i - (z.stripes + z.places)) (omega (arith, low, l))

-- a map among other parts
pub in_all : (z : Sizes) (first : ℕ) (c : Parts) → IsMap z (take (length (map_widths z)) (drop first c)) → 0 < z.places → first + (z.stripes + 3 * z.places) ≤ length c
in_all z first c v some =
    omega (arith, widths_long z, sym (length-map (take (length (map_widths z)) (drop first c)) length) ∙ ap length v.widths, length-take (length (map_widths z)) (drop first c), length-drop first c, some)

pub rows_same : (z : Sizes) (first : ℕ) (c : Parts) → map_rows z (drop first c) ≡ map_rows z (take (length (map_widths z)) (drop first c))
rows_same z first c = placed_own z (length (map_widths z)) (drop first c) z.places (omega arith) (omega (arith, widths_long z))
