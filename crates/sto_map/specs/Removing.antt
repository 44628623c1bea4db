-- A remove: the place is no longer live, the overs before it on the way are one less, and a stripe has room for one more.
use Rattle.std.specs.Prelude.{◌≡◌, ◌<◌, ◌≤◌, ◌+◌, ◌⊎◌, ◌^◌, ℕ, zero, suc, ℤ, pos, negsuc, ◌+ℤ◌, nat_eq, Bool, true, false, ◌&&◌, if◌then◌else◌, List, [], ◌∷◌, length, replicate, ◌++◌, slice_index_or, Some, None, refl}
use Rattle.std.specs.Ordering.{int_eq}
use Rattle.std.specs.Int.{w64, int_wrap}
use Rattle.std.specs.Int.RustNames.{FitsSigned}
use Rattle.std.proofs.Common.{ap, sym, ◌∙◌, arith, subst, inl, inr}
use Rattle.std.proofs.lemmas.Int.{ints, int_wrap_fits}
use Rattle.std.proofs.lemmas.Bool.Decides.{nat_tests}
use Rattle.sto_part.specs.Parts.{part_of}
use Rattle.sto_part.specs.Changes.{applied_all, wrapped_sum}
use Rattle.sto_part.specs.declared.change.Change.{Change}
use Rattle.sto_part.specs.declared.change.Change.TheVariants as C
use Rattle.sto_item.specs.Pending.{Entry, IsRisingFrom, EachChanges, changes_of, applied_updates}
use Rattle.sto_item.specs.Agreement.{HasWidths}
use Rattle.sto_item.proofs.Applied.{part_of-applied}
use Rattle.sto_model.specs.Rows.{value_at, without}
use Rattle.sto_model.proofs.RowFacts.{by_test, same_of, equal_of, IsRising-without}
use Rattle.sto_model.proofs.Maps.{value_at-without_same, value_at-without_other, same_maps}
use Rattle.sto_type.specs.Known.{Parts}
use Rattle.sto_type.specs.Words.{word, word_fits, part_fits, fits_after, widths_after, UpdatesFit}
use Rattle.sto_map.specs.Counts.{total, total-but, one-total, one}
use Rattle.sto_container.specs.Places.{is_live, natural}
use Rattle.sto_map.specs.Mapped.{Sizes, key_part, over_part, value_part, map_widths, key_of, holds, before, passes, count, rooms, IsNatural, IsMap, map_rows, placed, overs_from, removed}
use Rattle.sto_map.specs.Finding.{IsHere}
use Rattle.sto_map.specs.Placing.{value_of, none_placed, rows-rise, value_here, value_past}
use Rattle.sto_map.specs.Widths.{length_same, past_front, in_last, long_front, width_there, one_word}

module _ (z : Sizes) (k : ℤ) (p : ℕ) (d : ℤ) where
  pub overs_there : (q n : ℕ) → before z k q p ≡ true → overs_from z k p d q (suc n) ≡ (over_part z q, C.Add d ∷ []) ∷ overs_from z k p d (suc q) n
  overs_there q n b = ap (λ x. if x then (over_part z q, C.Add d ∷ []) ∷ overs_from z k p d (suc q) n else overs_from z k p d (suc q) n) b

  pub overs_past : (q n : ℕ) → before z k q p ≡ false → overs_from z k p d q (suc n) ≡ overs_from z k p d (suc q) n
  overs_past q n b = ap (λ x. if x then (over_part z q, C.Add d ∷ []) ∷ overs_from z k p d (suc q) n else overs_from z k p d (suc q) n) b

  pub overs-rise : (b q n : ℕ) → b ≤ over_part z q → IsRisingFrom b (overs_from z k p d q n)
  overs-rise b q zero l = tt
  overs-rise b q (suc n) l =
      by_test (before z k q p)
      (λ t. subst (IsRisingFrom b) (sym (overs_there q n t)) (l, overs-rise (over_part z q + 1) (suc q) n (omega arith)))
      (λ t. subst (IsRisingFrom b) (sym (overs_past q n t)) (overs-rise b (suc q) n (omega (arith, l))))

  pub overs-change : (q n : ℕ) → EachChanges (overs_from z k p d q n)
  overs-change q zero = tt
  overs-change q (suc n) =
      by_test (before z k q p)
      (λ t. subst EachChanges (sym (overs_there q n t)) (refl, overs-change (suc q) n))
      (λ t. subst EachChanges (sym (overs_past q n t)) (overs-change (suc q) n))

  pub overs-fit : (q n : ℕ) → UpdatesFit (overs_from z k p d q n)
  overs-fit q zero = tt
  overs-fit q (suc n) =
      by_test (before z k q p)
      (λ t. subst UpdatesFit (sym (overs_there q n t)) ((tt, tt), overs-fit (suc q) n))
      (λ t. subst UpdatesFit (sym (overs_past q n t)) (overs-fit (suc q) n))

  pub overs-wide : (c : Parts) (q n : ℕ) → q + n ≤ z.places → ((r : ℕ) → r < z.places → (over_part z r < length c) × (length (part_of c (over_part z r)) ≡ 1)) → HasWidths (overs_from z k p d q n) c
  overs-wide c q zero l w = tt
  overs-wide c q (suc n) l w =
      by_test (before z k q p)
      (λ t. subst (λ (es : List Entry). HasWidths es c) (sym (overs_there q n t)) ((w q (omega (arith, l))).0, (w q (omega (arith, l))).1, overs-wide c (suc q) n (omega (arith, l)) w))
      (λ t. subst (λ (es : List Entry). HasWidths es c) (sym (overs_past q n t)) (overs-wide c (suc q) n (omega (arith, l)) w))

  -- what they change
  other_part : (m x : ℕ) → (m ≡ x → ⊥) → nat_eq m x ≡ false
  other_part m x n = grind (arith, nat_tests)

  same_part : (m x : ℕ) → m ≡ x → nat_eq m x ≡ true
  same_part m x e = grind (arith, nat_tests)

  pub overs-none : (x q n : ℕ) → ((r : ℕ) → q ≤ r → r < q + n → over_part z r ≡ x → ⊥) → changes_of (overs_from z k p d q n) x ≡ []
  overs-none x q zero none = refl
  overs-none x q (suc n) none =
      let rest : changes_of (overs_from z k p d (suc q) n) x ≡ [] = overs-none x (suc q) n (λ r a b e. none r (omega (arith, a)) (omega (arith, b)) e) in
      by_test (before z k q p)
      (λ t. ap (λ es. changes_of es x) (overs_there q n t)
      ∙ ap (λ b. if b then C.Add d ∷ [] else changes_of (overs_from z k p d (suc q) n) x) (other_part (over_part z q) x (none q (omega arith) (omega arith))) ∙ rest)
      (λ t. ap (λ es. changes_of es x) (overs_past q n t) ∙ rest)

  abbrev pub down : Bool → List Change
  down true = C.Add d ∷ []
  down false = []

  same_or_more : (q r n : ℕ) → q ≤ r → r < q + suc n → (q ≡ r) ⊎ ((suc q ≤ r) × (r < suc q + n))
  same_or_more q r n a b = grind arith

  pub overs-at : (q n r : ℕ) → q ≤ r → r < q + n → changes_of (overs_from z k p d q n) (over_part z r) ≡ down (before z k r p)
  overs-at q zero r a b = absurd (omega (arith, a, b))
  overs-at q (suc n) r a b = elim (same_or_more q r n a b) [
    | inl same ↦
        by_test (before z k q p)
        (λ t. ap (λ es. changes_of es (over_part z r)) (overs_there q n t)
        ∙ ap (λ x. if x then C.Add d ∷ [] else changes_of (overs_from z k p d (suc q) n) (over_part z r)) (same_part (over_part z q) (over_part z r) (ap (over_part z) same))
        ∙ sym (ap down (sym (ap (λ y. before z k y p) same) ∙ t)))
        (λ t. ap (λ es. changes_of es (over_part z r)) (overs_past q n t)
        ∙ overs-none (over_part z r) (suc q) n (λ y u w e. omega (arith, same, u, e))
        ∙ sym (ap down (sym (ap (λ y. before z k y p) same) ∙ t)))
    | inr more ↦
        let rest : changes_of (overs_from z k p d (suc q) n) (over_part z r) ≡ down (before z k r p) = overs-at (suc q) n r more.0 more.1 in
        by_test (before z k q p)
        (λ t. ap (λ es. changes_of es (over_part z r)) (overs_there q n t)
        ∙ ap (λ x. if x then C.Add d ∷ [] else changes_of (overs_from z k p d (suc q) n) (over_part z r)) (other_part (over_part z q) (over_part z r) (λ e. omega (arith, e, more.0))) ∙ rest)
        (λ t. ap (λ es. changes_of es (over_part z r)) (overs_past q n t) ∙ rest)
  ]

in_front : (n x : ℕ) (ys : List ℕ) (i : ℕ) → i < n → slice_index_or (replicate n x ++ ys) i 0 ≡ x
in_front zero x ys i l = absurd (omega (arith, l))
in_front (suc n) x ys zero l = refl
in_front (suc n) x ys (suc i) l = in_front n x ys i (omega (arith, l))

-- the widths of a map's parts
module _ (z : Sizes) (c : Parts) (v : IsMap z c) where
  abbrev behind_keys : List ℕ
  behind_keys = replicate z.places 1 ++ replicate z.places 1

  abbrev behind_rooms : List ℕ
  behind_rooms = replicate z.places 2 ++ behind_keys

  parts_are : length (map_widths z) ≡ z.stripes + (z.places + (z.places + z.places))
  parts_are =
      long_front z.stripes 1 behind_rooms
      ∙ ap (λ x. z.stripes + x) (long_front z.places 2 behind_keys ∙ ap (λ x. z.places + x) (long_front z.places 1 (replicate z.places 1) ∙ ap (λ x. z.places + x) (length_same z.places 1)))

  pub room_wide : (s : ℕ) → s < z.stripes → (s < length c) × (length (part_of c s) ≡ 1)
  room_wide s l =
      let r : (s < length c) × (length (part_of c s) ≡ slice_index_or (map_widths z) s 0) = width_there c (map_widths z) s v.widths (omega (arith, l, parts_are)) in
      (r.0, r.1 ∙ in_front z.stripes 1 behind_rooms s l)

  pub key_wide : (q : ℕ) → q < z.places → (key_part z q < length c) × (length (part_of c (key_part z q)) ≡ 2)
  key_wide q l =
      let r : (key_part z q < length c) × (length (part_of c (key_part z q)) ≡ slice_index_or (map_widths z) (key_part z q) 0) = width_there c (map_widths z) (key_part z q) v.widths (omega (arith, l, parts_are)) in
      (r.0, r.1 ∙ past_front z.stripes 1 behind_rooms q ∙ in_front z.places 2 behind_keys q l)

  pub over_wide : (q : ℕ) → q < z.places → (over_part z q < length c) × (length (part_of c (over_part z q)) ≡ 1)
  over_wide q l =
      let r : (over_part z q < length c) × (length (part_of c (over_part z q)) ≡ slice_index_or (map_widths z) (over_part z q) 0) = width_there c (map_widths z) (over_part z q) v.widths (omega (arith, l, parts_are)) in
      (r.0, r.1 ∙ past_front z.stripes 1 behind_rooms (z.places + q) ∙ past_front z.places 2 behind_keys q ∙ in_front z.places 1 (replicate z.places 1) q l)

  pub value_wide : (q : ℕ) → q < z.places → (value_part z q < length c) × (length (part_of c (value_part z q)) ≡ 1)
  value_wide q l =
      let r : (value_part z q < length c) × (length (part_of c (value_part z q)) ≡ slice_index_or (map_widths z) (value_part z q) 0) = width_there c (map_widths z) (value_part z q) v.widths (omega (arith, l, parts_are)) in
      (r.0, r.1 ∙ past_front z.stripes 1 behind_rooms (z.places + (z.places + q)) ∙ past_front z.places 2 behind_keys (z.places + q) ∙ past_front z.places 1 (replicate z.places 1) q ∙ in_last z.places 1 q l)

pub natural_is : (w : ℤ) → IsNatural w → w ≡ pos (natural w)
natural_is (pos n) h = refl
natural_is (negsuc n) h = absurd h

two_words : (ws : List ℤ) → length ws ≡ 2 → applied_all (C.Put (pos 0) ∷ C.Keep ∷ []) ws ≡ pos 0 ∷ word ws 1 ∷ []
two_words [] e = cc
two_words (x ∷ []) e = absurd (omega (arith, e))
two_words (x ∷ y ∷ []) e = refl
two_words (x ∷ y ∷ w ∷ ws) e = absurd (omega (arith, e))

pub one_more : (x : ℕ) → x < 2 ^ 32 → wrapped_sum (pos x) (pos 1) ≡ pos (suc x)
one_more x l =
    let e : pos x +ℤ pos 1 ≡ pos (suc x) = omega (arith, ints) in
    let f : FitsSigned w64 (pos (suc x)) = record { sfits = omega (arith, l) } in
    ap (int_wrap w64) e ∙ int_wrap_fits w64 (pos (suc x)) f

pub one_less : (x y : ℕ) → x ≡ suc y → FitsSigned w64 (pos x) → wrapped_sum (pos x) (negsuc 0) ≡ pos y
one_less x y s g =
    let e : pos x +ℤ negsuc 0 ≡ pos y = omega (arith, ints, s) in
    let b = g.sfits in
    let f : FitsSigned w64 (pos y) = record { sfits = omega (arith, b, s) } in
    ap (int_wrap w64) e ∙ int_wrap_fits w64 (pos y) f

pub both_true : (a b : Bool) → (a && b) ≡ true → (a ≡ true) × (b ≡ true)
both_true true b e = (refl, e)
both_true false b e = cc

pub same_numbers : (i j : ℕ) → (i ≡ j) ⊎ (i ≡ j → ⊥)
same_numbers i j = grind arith

pub true_is_not : true ≡ false → ⊥
true_is_not e = cc

pub eq_false : (m x : ℕ) → (m ≡ x → ⊥) → nat_eq m x ≡ false
eq_false m x n = grind (arith, nat_tests)

pub eq_true : (m x : ℕ) → m ≡ x → nat_eq m x ≡ true
eq_true m x e = grind (arith, nat_tests)

-- a key is removed from the place where it stands
module _ (z : Sizes) (c : Parts) (v : IsMap z c) (k : ℤ) (p : ℕ) (h : IsHere z c k p) (s_in : z.stripe k < z.stripes) (small : z.keys < 2 ^ 32) where
  abbrev es : List Entry
  es = removed z k p

  abbrev after : Parts
  after = applied_updates es c

  abbrev overs : List Entry
  overs = overs_from z k p (negsuc 0) 0 z.places

  in_place : p < z.places
  in_place = h.below

  pub rising : IsRisingFrom 0 es
  rising = (omega arith, (omega (arith, s_in), overs-rise z k p (negsuc 0) (key_part z p + 1) 0 z.places (omega (arith, in_place))))

  pub wide : HasWidths es c
  wide = (
    (room_wide z c v (z.stripe k) s_in).0,
    (room_wide z c v (z.stripe k) s_in).1,
    ((key_wide z c v p in_place).0, (key_wide z c v p in_place).1, overs-wide z k p (negsuc 0) c 0 z.places (omega arith) (λ r l. over_wide z c v r l)),
  )

  at : (x : ℕ) → part_of after x ≡ applied_all (changes_of es x) (part_of c x)
  at x = part_of-applied 0 es c x rising wide

  pick : (x : ℕ) (i j : Bool) → nat_eq (z.stripe k) x ≡ i → nat_eq (key_part z p) x ≡ j → changes_of es x ≡ (if i then C.Add (pos 1) ∷ [] else (if j then C.Put (pos 0) ∷ C.Keep ∷ [] else changes_of overs x))
  pick x i j e f = ap (λ b. if b then C.Add (pos 1) ∷ [] else (if nat_eq (key_part z p) x then C.Put (pos 0) ∷ C.Keep ∷ [] else changes_of overs x)) e ∙ ap (λ b. if i then C.Add (pos 1) ∷ [] else (if b then C.Put (pos 0) ∷ C.Keep ∷ [] else changes_of overs x)) f

  room_there : part_of after (z.stripe k) ≡ applied_all (C.Add (pos 1) ∷ []) (part_of c (z.stripe k))
  room_there = at (z.stripe k) ∙ ap (λ cs. applied_all cs (part_of c (z.stripe k))) (pick (z.stripe k) true false (eq_true (z.stripe k) (z.stripe k) refl) (eq_false (key_part z p) (z.stripe k) (λ e. omega (arith, e, s_in))))

  kept : (x : ℕ) → (z.stripe k ≡ x → ⊥) → (key_part z p ≡ x → ⊥) → changes_of overs x ≡ [] → part_of after x ≡ part_of c x
  kept x m n o = at x ∙ ap (λ cs. applied_all cs (part_of c x)) (pick x false false (eq_false (z.stripe k) x m) (eq_false (key_part z p) x n) ∙ o)

  room_kept : (s : ℕ) → s < z.stripes → (s ≡ z.stripe k → ⊥) → part_of after s ≡ part_of c s
  room_kept s l n = kept s (λ e. n (sym e)) (λ e. omega (arith, e, l)) (overs-none z k p (negsuc 0) s 0 z.places (λ r u w e. omega (arith, e, l)))

  key_there : part_of after (key_part z p) ≡ pos 0 ∷ word (part_of c (key_part z p)) 1 ∷ []
  key_there =
      at (key_part z p) ∙ ap (λ cs. applied_all cs (part_of c (key_part z p))) (pick (key_part z p) false true (eq_false (z.stripe k) (key_part z p) (λ e. omega (arith, e, s_in))) (eq_true (key_part z p) (key_part z p) refl))
      ∙ two_words (part_of c (key_part z p)) (key_wide z c v p in_place).1

  key_kept : (q : ℕ) → q < z.places → (q ≡ p → ⊥) → part_of after (key_part z q) ≡ part_of c (key_part z q)
  key_kept q l n = kept (key_part z q) (λ e. omega (arith, e, s_in)) (λ e. n (omega (arith, e))) (overs-none z k p (negsuc 0) (key_part z q) 0 z.places (λ r u w e. omega (arith, e, l)))

  value_kept : (q : ℕ) → q < z.places → part_of after (value_part z q) ≡ part_of c (value_part z q)
  value_kept q l =
      kept (value_part z q) (λ e. omega (arith, e, s_in)) (λ e. omega (arith, e, in_place)) (overs-none z k p (negsuc 0) (value_part z q) 0 z.places (λ r u w e. omega (arith, e, w)))

  over_there : (q : ℕ) → q < z.places → part_of after (over_part z q) ≡ applied_all (down z k p (negsuc 0) (before z k q p)) (part_of c (over_part z q))
  over_there q l =
      at (over_part z q) ∙ ap (λ cs. applied_all cs (part_of c (over_part z q)))
      (pick (over_part z q) false false (eq_false (z.stripe k) (over_part z q) (λ e. omega (arith, e, s_in))) (eq_false (key_part z p) (over_part z q) (λ e. omega (arith, e, in_place)))
      ∙ overs-at z k p (negsuc 0) 0 z.places q (omega arith) (omega (arith, l)))

  -- what is live
  was_live : (is_live (part_of c (key_part z p)) ≡ true) × (int_eq (key_of (part_of c (key_part z p))) k ≡ true)
  was_live = both_true (is_live (part_of c (key_part z p))) (int_eq (key_of (part_of c (key_part z p))) k) h.holds

  now_dead : is_live (part_of after (key_part z p)) ≡ false
  now_dead = ap is_live key_there

  not_holding : (i : ℤ) → holds i (part_of after (key_part z p)) ≡ false
  not_holding i = ap (λ b. b && int_eq (key_of (part_of after (key_part z p))) i) now_dead

  passed : (q : ℕ) → passes z c q p ≡ one (before z k q p)
  passed q = let same : key_of (part_of c (key_part z p)) ≡ k = same_of (key_of (part_of c (key_part z p))) k was_live.1 in λ i. one (was_live.0 i && before z (same i) q p)

  passes_no_more : (q : ℕ) → passes z after q p ≡ 0
  passes_no_more q = ap (λ b. one (b && before z (key_of (part_of after (key_part z p))) q p)) now_dead

  passes_kept : (q r : ℕ) → r < z.places → (r ≡ p → ⊥) → passes z c q r ≡ passes z after q r
  passes_kept q r l n = ap (λ ws. one (is_live ws && before z (key_of ws) q r)) (sym (key_kept r l n))

  total_less : (q : ℕ) → total z.places (passes z after q) + one (before z k q p) ≡ total z.places (passes z c q)
  total_less q =
      let t : total z.places (passes z after q) + passes z c q p ≡ total z.places (passes z c q) + passes z after q p = total-but z.places (passes z c q) (passes z after q) p in_place (λ r l n. passes_kept q r l n) in
      omega (arith, t, passed q, passes_no_more q)

  over_word : (q : ℕ) → q < z.places → part_of c (over_part z q) ≡ pos (total z.places (passes z c q)) ∷ []
  over_word q l = one_word (part_of c (over_part z q)) (over_wide z c v q l).1 ∙ ap (λ x. x ∷ []) (v.overs q l)

  over_fits : (q : ℕ) → q < z.places → FitsSigned w64 (pos (total z.places (passes z c q)))
  over_fits q l = subst (FitsSigned w64) (v.overs q l) (word_fits (part_of c (over_part z q)) 0 (part_fits c (over_part z q) v.fits))

  over_less : (q : ℕ) (b : Bool) → q < z.places → before z k q p ≡ b → word (applied_all (down z k p (negsuc 0) b) (pos (total z.places (passes z c q)) ∷ [])) 0 ≡ pos (total z.places (passes z after q))
  over_less q true l e =
      let t : total z.places (passes z c q) ≡ suc (total z.places (passes z after q)) = omega (arith, total_less q, ap one e) in
      one_less (total z.places (passes z c q)) (total z.places (passes z after q)) t (over_fits q l)
  over_less q false l e = let t : total z.places (passes z c q) ≡ total z.places (passes z after q) = omega (arith, total_less q, ap one e) in ap pos t

  -- rooms and keys
  abbrev room_of : Parts → ℕ → ℕ
  room_of d s = natural (word (part_of d s) 0)

  room_few : room_of c (z.stripe k) < 2 ^ 32
  room_few = omega (arith, one-total z.stripes (room_of c) (z.stripe k) s_in, v.counted, small)

  room_word : word (part_of after (z.stripe k)) 0 ≡ pos (suc (room_of c (z.stripe k)))
  room_word =
      let w : part_of c (z.stripe k) ≡ pos (room_of c (z.stripe k)) ∷ [] =
      one_word (part_of c (z.stripe k)) (room_wide z c v (z.stripe k) s_in).1 ∙ ap (λ x. x ∷ []) (natural_is (word (part_of c (z.stripe k)) 0) (v.natural_rooms (z.stripe k) s_in)) in
      ap (λ ws. word ws 0) (room_there ∙ ap (applied_all (C.Add (pos 1) ∷ [])) w) ∙ one_more (room_of c (z.stripe k)) room_few

  abbrev live_one : Parts → ℕ → ℕ
  live_one d q = one (is_live (part_of d (key_part z q)))

  counted_after : rooms z after + count z after ≡ z.keys
  counted_after =
      let r : total z.stripes (room_of after) + room_of c (z.stripe k) ≡ total z.stripes (room_of c) + room_of after (z.stripe k) =
      total-but z.stripes (room_of c) (room_of after) (z.stripe k) s_in (λ s l n. ap (λ ws. natural (word ws 0)) (sym (room_kept s l n))) in
      let q : total z.places (live_one after) + live_one c p ≡ total z.places (live_one c) + live_one after p =
      total-but z.places (live_one c) (live_one after) p in_place (λ s l n. ap (λ ws. one (is_live ws)) (sym (key_kept s l n))) in
      let rn : room_of after (z.stripe k) ≡ suc (room_of c (z.stripe k)) = ap natural room_word in
      let lo : live_one c p ≡ 1 = ap one was_live.0 in
      let ln : live_one after p ≡ 0 = ap one now_dead in
      omega (arith, r, q, rn, lo, ln, v.counted)

  holds_back : (i : ℤ) (q : ℕ) → q < z.places → holds i (part_of after (key_part z q)) ≡ true → holds i (part_of c (key_part z q)) ≡ true
  holds_back i q l t = elim (same_numbers q p) [
    | inl same ↦ absurd (true_is_not (sym t ∙ ap (λ r. holds i (part_of after (key_part z r))) same ∙ not_holding i))
    | inr other ↦ sym (ap (holds i) (key_kept q l other)) ∙ t
  ]
    where
      true_is_not : true ≡ false → ⊥
      true_is_not e = cc

  pub is_removed : IsMap z after
  is_removed = record {
    widths = widths_after es c ∙ v.widths;
    fits = fits_after es c ((tt, tt), ((record { sfits = omega arith }, (tt, tt)), overs-fit z k p (negsuc 0) 0 z.places)) v.fits;
    bits = λ q l. elim (same_numbers q p) [
      | inl same ↦ subst (λ (r : ℕ). word (part_of after (key_part z r)) 0 ≡ pos (one (is_live (part_of after (key_part z r))))) (sym same) (ap (λ ws. word ws 0) key_there ∙ sym (ap (λ b. pos (one b)) now_dead))
      | inr other ↦ subst (λ (ws : List ℤ). word ws 0 ≡ pos (one (is_live ws))) (sym (key_kept q l other)) (v.bits q l)
    ];
    once = λ q r i l m f g. v.once q r i l m (holds_back i q l f) (holds_back i r m g);
    overs = λ q l. ap (λ ws. word ws 0) (over_there q l) ∙ ap (λ ws. word (applied_all (down z k p (negsuc 0) (before z k q p)) ws) 0) (over_word q l) ∙ over_less q (before z k q p) l refl;
    natural_rooms = λ s l. elim (same_numbers s (z.stripe k)) [
      | inl same ↦ subst IsNatural (sym (ap (λ r. word (part_of after r) 0) same ∙ room_word)) tt
      | inr other ↦ subst IsNatural (sym (ap (λ ws. word ws 0) (room_kept s l other))) (v.natural_rooms s l)
    ];
    counted = counted_after;
  }

  -- the rows
  none_left : (i : ℤ) (n : ℕ) → n ≤ z.places → (k ≡ i → ⊥) → value_at (placed z after n) i ≡ value_at (placed z c n) i
  none_left i zero l n = refl
  none_left i (suc q) l n =
      let rest : value_at (placed z after q) i ≡ value_at (placed z c q) i = none_left i q (omega (arith, l)) n in
      elim (same_numbers q p) [
        | inl same ↦
            let gone : holds i (part_of after (key_part z q)) ≡ false = ap (λ r. holds i (part_of after (key_part z r))) same ∙ not_holding i in
            let was : holds i (part_of c (key_part z q)) ≡ false =
            by_test (holds i (part_of c (key_part z q)))
            (λ t. absurd (n (sym (same_of (key_of (part_of c (key_part z p))) k was_live.1) ∙ same_of (key_of (part_of c (key_part z p))) i (both_true (is_live (part_of c (key_part z p))) (int_eq (key_of (part_of c (key_part z p))) i) (sym (ap (λ r. holds i (part_of c (key_part z r))) same) ∙ t)).1)))
            (λ t. t) in
            value_past z after i q gone ∙ rest ∙ sym (value_past z c i q was)
        | inr other ↦
            let key : part_of after (key_part z q) ≡ part_of c (key_part z q) = key_kept q (omega (arith, l)) other in
            let value : value_of z after q ≡ value_of z c q = ap (λ ws. word ws 0) (value_kept q (omega (arith, l))) in
            by_test (holds i (part_of c (key_part z q)))
            (λ t. value_here z after i q (ap (holds i) key ∙ t) ∙ ap Some value ∙ sym (value_here z c i q t))
            (λ t. value_past z after i q (ap (holds i) key ∙ t) ∙ rest ∙ sym (value_past z c i q t))
      ]

  pub rows_without : map_rows z after ≡ without (map_rows z c) k
  rows_without =
      same_maps (map_rows z after) (without (map_rows z c) k) (rows-rise z after) (IsRising-without (map_rows z c) k (rows-rise z c))
      (λ i.
      by_test (int_eq k i)
      (λ t.
      let same : k ≡ i = same_of k i t in
      let gone : value_at (map_rows z after) k ≡ None =
      none_placed z after k z.places
      (λ q l.
      by_test (holds k (part_of after (key_part z q)))
      (λ y. absurd (dead_here q (v.once q p k l in_place (holds_back k q l y) h.holds) y))
      (λ y. y)) in
      ap (value_at (map_rows z after)) (sym same) ∙ gone ∙ sym (value_at-without_same (map_rows z c) k (rows-rise z c)) ∙ ap (value_at (without (map_rows z c) k)) same)
      (λ t.
      let other : k ≡ i → ⊥ = λ e. true_is_not (sym (equal_of k i e) ∙ t) in
      none_left i z.places (omega arith) other ∙ sym (value_at-without_other (map_rows z c) k i other)))
    where
      true_is_not : true ≡ false → ⊥
      true_is_not e = cc

      dead_here : (q : ℕ) → q ≡ p → holds k (part_of after (key_part z q)) ≡ true → ⊥
      dead_here q same y = true_is_not (sym y ∙ ap (λ r. holds k (part_of after (key_part z r))) same ∙ not_holding k)
