-- What the walks of a put read and find, and how many rows there are.
use Rattle.std.specs.Prelude.{◌≡◌, ◌<◌, ◌≤◌, ◌+◌, ◌⊎◌, ℕ, zero, suc, ℤ, pos, int_lt, Bool, true, false, ◌&&◌, if◌then◌else◌, Option, Some, None, List, [], ◌∷◌, ◌++◌, length, slice_index_or, refl}
use Rattle.std.specs.Ordering.{int_eq}
use Rattle.std.proofs.Common.{ap, sym, ◌∙◌, arith, subst, inl, inr}
use Rattle.std.proofs.lemmas.Int.{ints}
use Rattle.sto_part.specs.Parts.{part_of}
use Rattle.sto_part.specs.Preds.{compares}
use Rattle.sto_part.specs.declared.pred.Test.TheVariants.{Lt, Ge}
use Rattle.sto_item.specs.declared.item.Item.{Item}
use Rattle.sto_item.specs.declared.item.Item.TheVariants.{Seen, Holds}
use Rattle.sto_item.specs.Agreement.{Agrees}
use Rattle.sto_model.specs.Rows.{Row, value_at, with_row}
use Rattle.sto_model.proofs.RowFacts.{by_test, with_row-below, with_row-above}
use Rattle.sto_type.specs.Known.{Parts, ContentsFit}
use Rattle.sto_type.specs.Meaning.{EachInside}
use Rattle.sto_type.specs.Reading.{IsRead}
use Rattle.sto_type.specs.Observing.{EachRead}
use Rattle.sto_type.specs.Telling.{Telling, reading_of}
use Rattle.sto_type.specs.Words.{word, compared, is_true}
use Rattle.sto_container.specs.Places.{wrapped, next, offset, next_below, offset_below, wrapped_next, wrapped_offset, wrapped_below, is_live}
use Rattle.sto_map.specs.Counts.{total, one}
use Rattle.sto_map.specs.Mapped.{Sizes, key_part, key_of, holds, IsMap, placed, map_rows}
use Rattle.sto_map.specs.Finding.{both_read, both_agree}
use Rattle.sto_map.specs.Placing.{value_of, none_placed}
use Rattle.sto_map.specs.Putting.{place_walk, place_from_home, room_walk, place_found, place_seen, room_found, room_seen, place_by, room_by}

-- the first on a ring that fails a test
abbrev pub first_on : ℕ → (ℕ → Bool) → ℕ → ℕ → Option ℕ
first_on n test zero p = None
first_on n test (suc left) p = if test p then first_on n test left (next n p) else Some p

pub record IsFirst (n : ℕ) (test : ℕ → Bool) (o : Option ℕ) (t : ℕ) : Type 0 where
  pub is : o ≡ Some t
  pub below : t < n
  pub fails : test t ≡ false

pub record IsNowhere (n : ℕ) (test : ℕ → Bool) (o : Option ℕ) : Type 0 where
  pub is : o ≡ None
  pub all : (t : ℕ) → t < n → test t ≡ true

near : (i j : ℕ) → i < suc j → (i < j) ⊎ (i ≡ j)
near i j l = grind arith

pub ring_spec :
    (n h : ℕ) (test : ℕ → Bool) → h < n → (left j p : ℕ) → left + j ≡ n → p ≡ wrapped n (h + j) → ((t : ℕ) → t < n → offset n h t < j → test t ≡ true)
    → ((t : ℕ) × IsFirst n test (first_on n test left p) t) ⊎ IsNowhere n test (first_on n test left p)
ring_spec n h test l zero j p s e before = inr (record { is = refl; all = λ t b. before t b (let o : offset n h t < n = offset_below n h t l b in omega (arith, o, s)) })
ring_spec n h test l (suc left) j p s e before =
    let b : j < n = omega (arith, s) in
    let in_range : p < n = subst (λ (x : ℕ). x < n) (sym e) (wrapped_below n h j l (omega (arith, b))) in
    by_test (test p)
    (λ y.
    let step : first_on n test (suc left) p ≡ first_on n test left (next n p) = ap (λ z. if z then first_on n test left (next n p) else Some p) y in
    let further : (t : ℕ) → t < n → offset n h t < suc j → test t ≡ true =
    λ t d o. elim (near (offset n h t) j o) [
      | inl less ↦ before t d less
      | inr same ↦
          let at : t ≡ p = sym (wrapped_offset n h t l d) ∙ ap (λ x. wrapped n (h + x)) same ∙ sym e in
          ap test at ∙ y
    ] in
    elim (ring_spec n h test l left (suc j) (next n p) (omega (arith, s)) (ap (next n) e ∙ wrapped_next n h j l b) further) [
      | inl f ↦ inl (f.0, record { is = step ∙ f.1.is; below = f.1.below; fails = f.1.fails })
      | inr f ↦ inr (record { is = step ∙ f.is; all = f.all })
    ])
    (λ y. inl (p, record { is = ap (λ z. if z then first_on n test left (next n p) else Some p) y; below = in_range; fails = y }))

module _ (z : Sizes) (k x : ℤ) (c : Parts) where
  abbrev pub live_at : ℕ → Bool
  live_at p = is_live (part_of c (key_part z p))

  abbrev pub no_room : ℕ → Bool
  no_room s = int_lt (word (part_of c s) 0) (pos 1)

  pub place_first : (left p : ℕ) → place_found z k x left p c ≡ first_on z.places live_at left p
  place_first zero p = refl
  place_first (suc left) p = ap (λ o. if live_at p then o else Some p) (place_first left (next z.places p))

  pub room_first : (left s : ℕ) → room_found z k x left s c ≡ first_on z.stripes no_room left s
  room_first zero s = refl
  room_first (suc left) s = ap (λ o. if no_room s then o else Some s) (room_first left (next z.stripes s))

  -- what is read
  pub place_reads :
      (r : Telling) (s left p : ℕ) (seen : List Item) → ((y : ℕ) → IsRead (reading_of (place_walk z k x s left p seen)) c y → IsRead (reading_of r) c y)
      → EachRead (reading_of r) c seen → EachRead (reading_of r) c (place_seen z k x left p seen c)
  place_reads r s zero p seen up all = all
  place_reads r s (suc left) p seen up all =
      let more : EachRead (reading_of r) c (seen ++ Seen (key_part z p) ∷ []) = both_read r c seen (Seen (key_part z p) ∷ []) all (up (key_part z p) (inl refl), tt) in
      by_test (live_at p)
      (λ b. subst (λ (y : Bool). EachRead (reading_of r) c (if y then place_seen z k x left (next z.places p) (seen ++ Seen (key_part z p) ∷ []) c else seen ++ Seen (key_part z p) ∷ [])) (sym b)
      (place_reads r s left (next z.places p) (seen ++ Seen (key_part z p) ∷ []) (λ y h. up y (inr (subst (λ (q : Bool). IsRead (reading_of (place_by z k x c s left p seen q)) c y) (sym b) h))) more))
      (λ b. subst (λ (y : Bool). EachRead (reading_of r) c (if y then place_seen z k x left (next z.places p) (seen ++ Seen (key_part z p) ∷ []) c else seen ++ Seen (key_part z p) ∷ [])) (sym b) more)

  pub room_reads :
      (r : Telling) (left s : ℕ) (seen : List Item) → ((y : ℕ) → IsRead (reading_of (room_walk z k x left s seen)) c y → IsRead (reading_of r) c y)
      → EachRead (reading_of r) c seen → EachRead (reading_of r) c (room_seen z k x left s seen c)
  room_reads r zero s seen up all = all
  room_reads r (suc left) s seen up all =
      let less : EachRead (reading_of r) c (seen ++ compared s 0 Lt (pos 1) ∷ []) = both_read r c seen (compared s 0 Lt (pos 1) ∷ []) all (up s (inl refl), tt) in
      let more : EachRead (reading_of r) c (seen ++ compared s 0 Ge (pos 1) ∷ []) = both_read r c seen (compared s 0 Ge (pos 1) ∷ []) all (up s (inl refl), tt) in
      by_test (no_room s)
      (λ b. subst (λ (y : Bool). EachRead (reading_of r) c (if y then room_seen z k x left (next z.stripes s) (seen ++ compared s 0 Lt (pos 1) ∷ []) c else seen ++ compared s 0 Ge (pos 1) ∷ [])) (sym b)
      (room_reads r left (next z.stripes s) (seen ++ compared s 0 Lt (pos 1) ∷ []) (λ y h. up y (inr (subst (λ (q : Bool). IsRead (reading_of (room_by z k x c left s seen q)) c y) (sym b) h))) less))
      (λ b. subst (λ (y : Bool). EachRead (reading_of r) c (if y then room_seen z k x left (next z.stripes s) (seen ++ compared s 0 Lt (pos 1) ∷ []) c else seen ++ compared s 0 Ge (pos 1) ∷ [])) (sym b) more)

  -- and what is read behind
  pub room_then :
      (left s t : ℕ) (seen : List Item) → room_found z k x left s c ≡ Some t → (y : ℕ) → IsRead (reading_of (place_from_home z k x t (room_seen z k x left s seen c))) c y → IsRead (reading_of (room_walk z k x left s seen)) c y
  room_then zero s t seen e y h = cc
  room_then (suc left) s t seen e y h =
      by_test (no_room s)
      (λ b.
      let f : room_found z k x left (next z.stripes s) c ≡ Some t = sym (ap (λ q. if q then room_found z k x left (next z.stripes s) c else Some s) b) ∙ e in
      let g : IsRead (reading_of (place_from_home z k x t (room_seen z k x left (next z.stripes s) (seen ++ compared s 0 Lt (pos 1) ∷ []) c))) c y =
      subst (λ (q : Bool). IsRead (reading_of (place_from_home z k x t (if q then room_seen z k x left (next z.stripes s) (seen ++ compared s 0 Lt (pos 1) ∷ []) c else seen ++ compared s 0 Ge (pos 1) ∷ []))) c y) b h in
      inr (subst (λ (q : Bool). IsRead (reading_of (room_by z k x c left s seen q)) c y) (sym b) (room_then left (next z.stripes s) t (seen ++ compared s 0 Lt (pos 1) ∷ []) f y g)))
      (λ b.
      let f : Some s ≡ Some t = sym (ap (λ q. if q then room_found z k x left (next z.stripes s) c else Some s) b) ∙ e in
      let same : s ≡ t = cc in
      let g : IsRead (reading_of (place_from_home z k x t (seen ++ compared s 0 Ge (pos 1) ∷ []))) c y =
      subst (λ (q : Bool). IsRead (reading_of (place_from_home z k x t (if q then room_seen z k x left (next z.stripes s) (seen ++ compared s 0 Lt (pos 1) ∷ []) c else seen ++ compared s 0 Ge (pos 1) ∷ []))) c y) b h in
      inr (subst (λ (q : Bool). IsRead (reading_of (room_by z k x c left s seen q)) c y) (sym b) (subst (λ (w : ℕ). IsRead (reading_of (place_from_home z k x w (seen ++ compared s 0 Ge (pos 1) ∷ []))) c y) (sym same) g)))

  -- within the parts
  module _ (n : ℕ) (key_in : (q : ℕ) → q < z.places → key_part z q < n) (room_in : (s : ℕ) → s < z.stripes → s < n) (home_in : z.home k < z.places) where
    pub place_within : (s left p : ℕ) (seen : List Item) → p < z.places → (y : ℕ) → IsRead (reading_of (place_walk z k x s left p seen)) c y → y < n
    place_within s zero p seen l y h = absurd h
    place_within s (suc left) p seen l y (inl e) = subst (λ (q : ℕ). q < n) e (key_in p l)
    place_within s (suc left) p seen l y (inr h) =
        by_test (live_at p)
        (λ b. place_within s left (next z.places p) (seen ++ Seen (key_part z p) ∷ []) (next_below z.places p l) y (subst (λ (q : Bool). IsRead (reading_of (place_by z k x c s left p seen q)) c y) b h))
        (λ b. absurd (subst (λ (q : Bool). IsRead (reading_of (place_by z k x c s left p seen q)) c y) b h))

    pub room_within : (left s : ℕ) (seen : List Item) → s < z.stripes → (y : ℕ) → IsRead (reading_of (room_walk z k x left s seen)) c y → y < n
    room_within zero s seen l y h = absurd h
    room_within (suc left) s seen l y (inl e) = subst (λ (q : ℕ). q < n) e (room_in s l)
    room_within (suc left) s seen l y (inr h) =
        by_test (no_room s)
        (λ b. room_within left (next z.stripes s) (seen ++ compared s 0 Lt (pos 1) ∷ []) (next_below z.stripes s l) y (subst (λ (q : Bool). IsRead (reading_of (room_by z k x c left s seen q)) c y) b h))
        (λ b. place_within s z.places (z.home k) (seen ++ compared s 0 Ge (pos 1) ∷ []) home_in y (subst (λ (q : Bool). IsRead (reading_of (room_by z k x c left s seen q)) c y) b h))

  -- the items are true, and of words that are there
  at_least : (w : ℤ) → int_lt w (pos 1) ≡ false → compares Ge w (pos 1) ≡ true
  at_least w e = grind (arith, ints)

  pub place_true : (left p : ℕ) (seen : List Item) → Agrees c seen c → Agrees c (place_seen z k x left p seen c) c
  place_true zero p seen g = g
  place_true (suc left) p seen g =
      let more : Agrees c (seen ++ Seen (key_part z p) ∷ []) c = both_agree c c seen (Seen (key_part z p) ∷ []) g (refl, tt) in
      by_test (live_at p)
      (λ b. subst (λ (y : Bool). Agrees c (if y then place_seen z k x left (next z.places p) (seen ++ Seen (key_part z p) ∷ []) c else seen ++ Seen (key_part z p) ∷ []) c) (sym b) (place_true left (next z.places p) (seen ++ Seen (key_part z p) ∷ []) more))
      (λ b. subst (λ (y : Bool). Agrees c (if y then place_seen z k x left (next z.places p) (seen ++ Seen (key_part z p) ∷ []) c else seen ++ Seen (key_part z p) ∷ []) c) (sym b) more)

  pub room_true : ContentsFit c → (left s : ℕ) (seen : List Item) → Agrees c seen c → Agrees c (room_seen z k x left s seen c) c
  room_true f zero s seen g = g
  room_true f (suc left) s seen g =
      by_test (no_room s)
      (λ b. subst (λ (y : Bool). Agrees c (if y then room_seen z k x left (next z.stripes s) (seen ++ compared s 0 Lt (pos 1) ∷ []) c else seen ++ compared s 0 Ge (pos 1) ∷ []) c) (sym b)
      (room_true f left (next z.stripes s) (seen ++ compared s 0 Lt (pos 1) ∷ []) (both_agree c c seen (compared s 0 Lt (pos 1) ∷ []) g (is_true c s 0 Lt (pos 1) f b, tt))))
      (λ b. subst (λ (y : Bool). Agrees c (if y then room_seen z k x left (next z.stripes s) (seen ++ compared s 0 Lt (pos 1) ∷ []) c else seen ++ compared s 0 Ge (pos 1) ∷ []) c) (sym b)
      (both_agree c c seen (compared s 0 Ge (pos 1) ∷ []) g (is_true c s 0 Ge (pos 1) f (at_least (word (part_of c s) 0) b), tt)))

  inside_two : (ws : List ℕ) (xs ys : List Item) → EachInside ws xs → EachInside ws ys → EachInside ws (xs ++ ys)
  inside_two ws [] ys f g = g
  inside_two ws (Seen p ∷ xs) ys f g = inside_two ws xs ys f g
  inside_two ws (Holds p ∷ xs) ys f g = (f.0, inside_two ws xs ys f.1 g)

  pub place_inside : (ws : List ℕ) (left p : ℕ) (seen : List Item) → EachInside ws seen → EachInside ws (place_seen z k x left p seen c)
  place_inside ws zero p seen g = g
  place_inside ws (suc left) p seen g =
      let more : EachInside ws (seen ++ Seen (key_part z p) ∷ []) = inside_two ws seen (Seen (key_part z p) ∷ []) g tt in
      by_test (live_at p)
      (λ b. subst (λ (y : Bool). EachInside ws (if y then place_seen z k x left (next z.places p) (seen ++ Seen (key_part z p) ∷ []) c else seen ++ Seen (key_part z p) ∷ [])) (sym b) (place_inside ws left (next z.places p) (seen ++ Seen (key_part z p) ∷ []) more))
      (λ b. subst (λ (y : Bool). EachInside ws (if y then place_seen z k x left (next z.places p) (seen ++ Seen (key_part z p) ∷ []) c else seen ++ Seen (key_part z p) ∷ [])) (sym b) more)

  pub room_inside : (ws : List ℕ) → ((s : ℕ) → s < z.stripes → 0 < slice_index_or ws s 0) → (left s : ℕ) (seen : List Item) → s < z.stripes → EachInside ws seen → EachInside ws (room_seen z k x left s seen c)
  room_inside ws w zero s seen l g = g
  room_inside ws w (suc left) s seen l g =
      by_test (no_room s)
      (λ b. subst (λ (y : Bool). EachInside ws (if y then room_seen z k x left (next z.stripes s) (seen ++ compared s 0 Lt (pos 1) ∷ []) c else seen ++ compared s 0 Ge (pos 1) ∷ [])) (sym b)
      (room_inside ws w left (next z.stripes s) (seen ++ compared s 0 Lt (pos 1) ∷ []) (next_below z.stripes s l) (inside_two ws seen (compared s 0 Lt (pos 1) ∷ []) g (w s l, tt))))
      (λ b. subst (λ (y : Bool). EachInside ws (if y then room_seen z k x left (next z.stripes s) (seen ++ compared s 0 Lt (pos 1) ∷ []) c else seen ++ compared s 0 Ge (pos 1) ∷ [])) (sym b)
      (inside_two ws seen (compared s 0 Ge (pos 1) ∷ []) g (w s l, tt)))

-- how many rows there are
value_first : (s : Row) (xs : List Row) (i : ℤ) → int_eq s.0 i ≡ true → value_at (s ∷ xs) i ≡ Some s.1
value_first s xs i e = rw e refl

value_later : (s : Row) (xs : List Row) (i : ℤ) → int_eq s.0 i ≡ false → value_at (s ∷ xs) i ≡ value_at xs i
value_later s xs i e = rw e refl

other_is : (a b : ℤ) → int_lt a b ≡ true → int_eq a b ≡ false
other_is a b e = grind (arith, ints)

pub length-with_new : (rows : List Row) (i x : ℤ) → value_at rows i ≡ None → length (with_row rows i x) ≡ suc (length rows)
length-with_new [] i x e = refl
length-with_new (s ∷ rows) i x e =
    by_test (int_lt s.0 i)
    (λ t. ap length (with_row-below s rows i x t) ∙ ap suc (length-with_new rows i x (sym (value_later s rows i (other_is s.0 i t)) ∙ e)))
    (λ t. by_test (int_eq s.0 i)
    (λ u. let f : Some s.1 ≡ None = sym (value_first s rows i u) ∙ e in cc)
    (λ u. ap length (with_row-above s rows i x t u)))

module _ (z : Sizes) (c : Parts) (v : IsMap z c) where
  abbrev live_one : ℕ → ℕ
  live_one p = one (is_live (part_of c (key_part z p)))

  true_is_not : true ≡ false → ⊥
  true_is_not e = cc

  own_key : (p : ℕ) → is_live (part_of c (key_part z p)) ≡ true → holds (key_of (part_of c (key_part z p))) (part_of c (key_part z p)) ≡ true
  own_key p b = λ i. b i && same (key_of (part_of c (key_part z p))) i
    where
      same : (w : ℤ) → int_eq w w ≡ true
      same w = grind (arith, ints)

  length-placed : (n : ℕ) → n ≤ z.places → length (placed z c n) ≡ total n live_one
  length-placed zero l = refl
  length-placed (suc n) l =
      let rest : length (placed z c n) ≡ total n live_one = length-placed n (omega (arith, l)) in
      by_test (is_live (part_of c (key_part z n)))
      (λ b.
      let key : ℤ = key_of (part_of c (key_part z n)) in
      let new : value_at (placed z c n) key ≡ None =
      none_placed z c key n
      (λ p d. by_test (holds key (part_of c (key_part z p)))
      (λ h. let same : p ≡ n = v.once p n key (omega (arith, d, l)) (omega (arith, l)) h (own_key n b) in absurd (omega (arith, d, same)))
      (λ h. h)) in
      let one_is : live_one n ≡ 1 = ap one b in
      let step : length (placed z c (suc n)) ≡ suc (length (placed z c n)) =
      ap (λ y. length (if y then with_row (placed z c n) key (value_of z c n) else placed z c n)) b ∙ length-with_new (placed z c n) key (value_of z c n) new in
      omega (arith, rest, one_is, step))
      (λ b.
      let one_is : live_one n ≡ 0 = ap one b in
      let step : length (placed z c (suc n)) ≡ length (placed z c n) = ap (λ y. length (if y then with_row (placed z c n) (key_of (part_of c (key_part z n))) (value_of z c n) else placed z c n)) b in
      omega (arith, rest, one_is, step))

  pub length-rows : length (map_rows z c) ≡ total z.places live_one
  length-rows = length-placed z.places (omega arith)
