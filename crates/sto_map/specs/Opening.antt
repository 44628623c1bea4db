-- The opening of a map: every stripe has its room, and no place is live.
use Rattle.std.specs.Prelude.{◌≡◌, ◌<◌, ◌≤◌, ◌+◌, ◌^◌, ℕ, zero, suc, ℤ, pos, true, false, ◌&&◌, if◌then◌else◌, List, [], ◌∷◌, ◌++◌, map, length, replicate, refl}
use Rattle.std.specs.Ordering.{int_eq}
use Rattle.std.specs.Int.{w64}
use Rattle.std.specs.Int.RustNames.{FitsSigned}
use Rattle.std.proofs.Common.{ap, sym, ◌∙◌, arith, subst}
use Rattle.sto_part.specs.Parts.{part_of}
use Rattle.sto_model.specs.Rows.{with_row}
use Rattle.sto_type.specs.Known.{Parts, ContentsFit}
use Rattle.sto_type.specs.Meaning.{IsLawful}
use Rattle.sto_type.specs.Words.{word}
use Rattle.sto_map.specs.Counts.{total, total-same, one, one-total}
use Rattle.sto_container.specs.Places.{is_live, natural}
use Rattle.sto_map.specs.Mapped.{Sizes, AreSizes, key_part, over_part, value_part, key_of, holds, before, passes, count, rooms, IsNatural, IsMap, placed, map_meaning}
use Rattle.sto_map.specs.MappedLaw.{map_lawful}

-- the rooms of the stripes from s on
abbrev pub rooms_from : (ℕ → ℕ) → ℕ → ℕ → Parts
rooms_from room s zero = []
rooms_from room s (suc n) = (pos (room s) ∷ []) ∷ rooms_from room (suc s) n

abbrev pub opening : Sizes → (ℕ → ℕ) → Parts
opening z room = rooms_from room 0 z.stripes ++ (replicate z.places (pos 0 ∷ pos 0 ∷ []) ++ (replicate z.places (pos 0 ∷ []) ++ replicate z.places (pos 0 ∷ [])))

-- parts one behind the other
length_rooms : (room : ℕ → ℕ) (s n : ℕ) → length (rooms_from room s n) ≡ n
length_rooms room s zero = refl
length_rooms room s (suc n) = ap suc (length_rooms room (suc s) n)

room_at : (room : ℕ → ℕ) (s n i : ℕ) (c : Parts) → i < n → part_of (rooms_from room s n ++ c) i ≡ pos (room (s + i)) ∷ []
room_at room s zero i c l = absurd (omega (arith, l))
room_at room s (suc n) zero c l = let e : s + 0 ≡ s = omega arith in ap (λ x. pos (room x) ∷ []) (sym e)
room_at room s (suc n) (suc i) c l = let e : suc s + i ≡ s + suc i = omega arith in room_at room (suc s) n i c (omega (arith, l)) ∙ ap (λ x. pos (room x) ∷ []) e

past_rooms : (room : ℕ → ℕ) (s n i : ℕ) (c : Parts) → part_of (rooms_from room s n ++ c) (n + i) ≡ part_of c i
past_rooms room s zero i c = let e : 0 + i ≡ i = omega arith in ap (part_of c) e
past_rooms room s (suc n) i c = let e : suc n + i ≡ suc (n + i) = omega arith in ap (part_of ((pos (room s) ∷ []) ∷ rooms_from room (suc s) n ++ c)) e ∙ past_rooms room (suc s) n i c

same_at : (n i : ℕ) (ws : List ℤ) (c : Parts) → i < n → part_of (replicate n ws ++ c) i ≡ ws
same_at zero i ws c l = absurd (omega (arith, l))
same_at (suc n) zero ws c l = refl
same_at (suc n) (suc i) ws c l = same_at n i ws c (omega (arith, l))

past_same : (n i : ℕ) (ws : List ℤ) (c : Parts) → part_of (replicate n ws ++ c) (n + i) ≡ part_of c i
past_same zero i ws c = let e : 0 + i ≡ i = omega arith in ap (part_of c) e
past_same (suc n) i ws c = let e : suc n + i ≡ suc (n + i) = omega arith in ap (part_of (ws ∷ replicate n ws ++ c)) e ∙ past_same n i ws c

widths_rooms : (room : ℕ → ℕ) (s n : ℕ) (c : Parts) (ws : List ℕ) → map length c ≡ ws → map length (rooms_from room s n ++ c) ≡ replicate n 1 ++ ws
widths_rooms room s zero c ws e = e
widths_rooms room s (suc n) c ws e = ap (λ l. 1 ∷ l) (widths_rooms room (suc s) n c ws e)

widths_same : (n : ℕ) (xs : List ℤ) (c : Parts) (ws : List ℕ) → map length c ≡ ws → map length (replicate n xs ++ c) ≡ replicate n (length xs) ++ ws
widths_same zero xs c ws e = e
widths_same (suc n) xs c ws e = ap (λ l. length xs ∷ l) (widths_same n xs c ws e)

widths_last : (n : ℕ) (xs : List ℤ) → map length (replicate n xs) ≡ replicate n (length xs)
widths_last zero xs = refl
widths_last (suc n) xs = ap (λ l. length xs ∷ l) (widths_last n xs)

zero_fits : FitsSigned w64 (pos 0)
zero_fits = record { sfits = omega arith }

fits_twos : (n : ℕ) (c : Parts) → ContentsFit c → ContentsFit (replicate n (pos 0 ∷ pos 0 ∷ []) ++ c)
fits_twos zero c h = h
fits_twos (suc n) c h = ((zero_fits, (zero_fits, tt)), fits_twos n c h)

fits_ones : (n : ℕ) (c : Parts) → ContentsFit c → ContentsFit (replicate n (pos 0 ∷ []) ++ c)
fits_ones zero c h = h
fits_ones (suc n) c h = ((zero_fits, tt), fits_ones n c h)

fits_last : (n : ℕ) → ContentsFit (replicate n (pos 0 ∷ []))
fits_last zero = tt
fits_last (suc n) = ((zero_fits, tt), fits_last n)

number_fits : (x : ℕ) → x < 2 ^ 32 → FitsSigned w64 (pos x)
number_fits x l = record { sfits = omega (arith, l) }

fits_rooms : (room : ℕ → ℕ) (s n : ℕ) (c : Parts) → ((t : ℕ) → t < s + n → room t < 2 ^ 32) → ContentsFit c → ContentsFit (rooms_from room s n ++ c)
fits_rooms room s zero c f h = h
fits_rooms room s (suc n) c f h = ((number_fits (room s) (f s (omega arith)), tt), fits_rooms room (suc s) n c (λ t l. f t (omega (arith, l))) h)

nothing : (n : ℕ) (f : ℕ → ℕ) → ((q : ℕ) → q < n → f q ≡ 0) → total n f ≡ 0
nothing zero f e = refl
nothing (suc n) f e = omega (arith, nothing n f (λ q l. e q (omega (arith, l))), e n (omega arith))

module _ (z : Sizes) (a : AreSizes z) (room : ℕ → ℕ) (sums : total z.stripes room ≡ z.keys) where
  abbrev c : Parts
  c = opening z room

  abbrev values : Parts
  values = replicate z.places (pos 0 ∷ [])

  abbrev overs : Parts
  overs = replicate z.places (pos 0 ∷ []) ++ values

  abbrev keys : Parts
  keys = replicate z.places (pos 0 ∷ pos 0 ∷ []) ++ overs

  key_is : (p : ℕ) → p < z.places → part_of c (key_part z p) ≡ pos 0 ∷ pos 0 ∷ []
  key_is p l = past_rooms room 0 z.stripes p keys ∙ same_at z.places p (pos 0 ∷ pos 0 ∷ []) overs l

  over_is : (p : ℕ) → p < z.places → part_of c (over_part z p) ≡ pos 0 ∷ []
  over_is p l = past_rooms room 0 z.stripes (z.places + p) keys ∙ past_same z.places p (pos 0 ∷ pos 0 ∷ []) overs ∙ same_at z.places p (pos 0 ∷ []) values l

  room_is : (s : ℕ) → s < z.stripes → part_of c s ≡ pos (room s) ∷ []
  room_is s l = let e : 0 + s ≡ s = omega arith in room_at room 0 z.stripes s keys l ∙ ap (λ x. pos (room x) ∷ []) e

  dead : (p : ℕ) → p < z.places → is_live (part_of c (key_part z p)) ≡ false
  dead p l = ap is_live (key_is p l)

  no_key : (k : ℤ) (p : ℕ) → p < z.places → holds k (part_of c (key_part z p)) ≡ false
  no_key k p l = ap (λ b. b && int_eq (key_of (part_of c (key_part z p))) k) (dead p l)

  room_few : (t : ℕ) → t < 0 + z.stripes → room t < 2 ^ 32
  room_few t l = omega (arith, one-total z.stripes room t (omega (arith, l)), sums, a.small)

  true_is_not : true ≡ false → ⊥
  true_is_not e = cc

  pub opened_map : IsMap z c
  opened_map = record {
    widths = widths_rooms room 0 z.stripes keys (replicate z.places 2 ++ (replicate z.places 1 ++ replicate z.places 1))
        (widths_same z.places (pos 0 ∷ pos 0 ∷ []) overs (replicate z.places 1 ++ replicate z.places 1) (widths_same z.places (pos 0 ∷ []) values (replicate z.places 1) (widths_last z.places (pos 0 ∷ []))));
    fits = fits_rooms room 0 z.stripes keys room_few (fits_twos z.places overs (fits_ones z.places values (fits_last z.places)));
    bits = λ p l. ap (λ ws. word ws 0) (key_is p l) ∙ sym (ap (λ b. pos (one b)) (dead p l));
    once = λ p q k l m f g. absurd (true_is_not (sym f ∙ no_key k p l));
    overs = λ q l. ap (λ ws. word ws 0) (over_is q l)
        ∙ ap pos (sym (nothing z.places (passes z c q) (λ r d. ap (λ b. one (b && before z (key_of (part_of c (key_part z r))) q r)) (dead r d))));
    natural_rooms = λ s l. subst IsNatural (sym (ap (λ ws. word ws 0) (room_is s l))) tt;
    counted =
        let all : rooms z c ≡ total z.stripes room = total-same z.stripes (λ s. natural (word (part_of c s) 0)) room (λ s l. ap (λ ws. natural (word ws 0)) (room_is s l)) in
        let none : count z c ≡ 0 = nothing z.places (λ p. one (is_live (part_of c (key_part z p)))) (λ q l. ap one (dead q l)) in
        omega (arith, all, none, sums);
  }

  no_rows : (n : ℕ) → n ≤ z.places → placed z c n ≡ []
  no_rows zero l = refl
  no_rows (suc n) l =
      ap (λ b. if b then with_row (placed z c n) (key_of (part_of c (key_part z n))) (word (part_of c (value_part z n)) 0) else placed z c n) (dead n (omega (arith, l)))
      ∙ no_rows n (omega (arith, l))

  -- a map is lawful, whatever the home and the stripe of a key
  pub map_is_lawful : IsLawful (map_meaning z c)
  map_is_lawful = map_lawful z a c opened_map (no_rows z.places (omega arith))
