-- A put of a new key: the place becomes live with the key, the overs before it on the way are one more, and a stripe has room for one less.
use Rattle.std.specs.Prelude.{◌≡◌, ◌<◌, ◌≤◌, ◌+◌, ◌⊎◌, ◌^◌, ℕ, zero, suc, ℤ, pos, negsuc, nat_eq, Bool, true, false, ◌&&◌, if◌then◌else◌, List, [], ◌∷◌, ◌++◌, length, Some, refl}
use Rattle.std.specs.Ordering.{int_eq}
use Rattle.std.specs.Int.{w64}
use Rattle.std.specs.Int.RustNames.{FitsSigned}
use Rattle.std.proofs.Common.{ap, sym, ◌∙◌, arith, subst, inl, inr}
use Rattle.sto_part.specs.Parts.{part_of}
use Rattle.sto_part.specs.Changes.{applied_all}
use Rattle.sto_part.specs.declared.change.Change.{Change}
use Rattle.sto_part.specs.declared.change.Change.TheVariants as C
use Rattle.sto_item.specs.Pending.{Entry, IsRisingFrom, EachChanges, changes_of, applied_updates}
use Rattle.sto_item.specs.Agreement.{HasWidths}
use Rattle.sto_item.proofs.Applied.{part_of-applied}
use Rattle.sto_model.specs.Rows.{value_at, with_row}
use Rattle.sto_model.proofs.RowFacts.{by_test, same_of, equal_of, IsRising-with_row}
use Rattle.sto_model.proofs.Maps.{value_at-with_row_same, value_at-with_row_other, same_maps}
use Rattle.sto_type.specs.Known.{Parts}
use Rattle.sto_type.specs.Words.{word, word_fits, part_fits, fits_after, widths_after, UpdatesFit}
use Rattle.sto_map.specs.Counts.{total, total-but, one}
use Rattle.sto_container.specs.Places.{is_live, natural}
use Rattle.sto_map.specs.Mapped.{Sizes, key_part, over_part, value_part, key_of, holds, before, passes, count, rooms, IsNatural, IsMap, map_rows, placed, overs_from, added}
use Rattle.sto_map.specs.Finding.{NoneHere}
use Rattle.sto_map.specs.Placing.{value_of, one_placed, rows-rise, value_here, value_past}
use Rattle.sto_map.specs.Widths.{one_word}
use Rattle.sto_map.specs.Removing.{overs-rise, overs-change, overs-fit, overs-wide, overs-none, overs-at, down, room_wide, key_wide, over_wide, value_wide, natural_is, one_more, one_less, both_true, same_numbers, eq_false, eq_true, true_is_not}

total-le : (n : ℕ) (f g : ℕ → ℕ) → ((q : ℕ) → q < n → f q ≤ g q) → total n f ≤ total n g
total-le zero f g e = omega arith
total-le (suc n) f g e = omega (arith, total-le n f g (λ q l. e q (omega (arith, l))), e n (omega arith))

two_puts : (x y : ℤ) (ws : List ℤ) → length ws ≡ 2 → applied_all (C.Put x ∷ C.Put y ∷ []) ws ≡ x ∷ y ∷ []
two_puts x y [] e = cc
two_puts x y (a ∷ []) e = absurd (omega (arith, e))
two_puts x y (a ∷ b ∷ []) e = refl
two_puts x y (a ∷ b ∷ w ∷ ws) e = absurd (omega (arith, e))

one_put : (x : ℤ) (ws : List ℤ) → length ws ≡ 1 → applied_all (C.Put x ∷ []) ws ≡ x ∷ []
one_put x [] e = cc
one_put x (a ∷ []) e = refl
one_put x (a ∷ b ∷ ws) e = absurd (omega (arith, e))

-- a part has an update
abbrev changes_below : List Entry → ℕ → Type 0
changes_below [] r = ⊥
changes_below (e ∷ es) r = (e.0 ≡ r) ⊎ changes_below es r

overs_changed : (z : Sizes) (k : ℤ) (p : ℕ) (d : ℤ) (q n r : ℕ) → changes_below (overs_from z k p d q n) r → (i : ℕ) × (i < q + n) × (over_part z i ≡ r)
overs_changed z k p d q zero r h = absurd h
overs_changed z k p d q (suc n) r h =
    by_test (before z k q p)
    (λ t. elim (subst (λ (b : Bool). changes_below (if b then (over_part z q, C.Add d ∷ []) ∷ overs_from z k p d (suc q) n else overs_from z k p d (suc q) n) r) t h) [
      | inl here ↦ (q, omega arith, here)
      | inr later ↦ let w : (i : ℕ) × (i < suc q + n) × (over_part z i ≡ r) = overs_changed z k p d (suc q) n r later in (w.0, omega (arith, w.1), w.2)
    ])
    (λ t.
    let w : (i : ℕ) × (i < suc q + n) × (over_part z i ≡ r) = overs_changed z k p d (suc q) n r (subst (λ (b : Bool). changes_below (if b then (over_part z q, C.Add d ∷ []) ∷ overs_from z k p d (suc q) n else overs_from z k p d (suc q) n) r) t h) in
    (w.0, omega (arith, w.1), w.2))

-- updates with one more behind them
more_rise : (b : ℕ) (es : List Entry) (x : ℕ) (u : List Change) → IsRisingFrom b es → b ≤ x → ((r : ℕ) → changes_below es r → r < x) → IsRisingFrom b (es ++ (x, u) ∷ [])
more_rise b [] x u h l all = (l, tt)
more_rise b (e ∷ es) x u h l all = (h.0, more_rise (e.0 + 1) es x u h.1 (omega (arith, all e.0 (inl refl))) (λ r i. all r (inr i)))

more_change : (es : List Entry) (x : ℕ) (y : ℤ) → EachChanges es → EachChanges (es ++ (x, C.Put y ∷ []) ∷ [])
more_change [] x y h = (refl, tt)
more_change (e ∷ es) x y h = (h.0, more_change es x y h.1)

more_fit : (es : List Entry) (x : ℕ) (y : ℤ) → FitsSigned w64 y → UpdatesFit es → UpdatesFit (es ++ (x, C.Put y ∷ []) ∷ [])
more_fit [] x y f h = ((f, tt), tt)
more_fit (e ∷ es) x y f h = (h.0, more_fit es x y f h.1)

more_wide : (c : Parts) (es : List Entry) (x : ℕ) (y : ℤ) → (x < length c) × (length (part_of c x) ≡ 1) → HasWidths es c → HasWidths (es ++ (x, C.Put y ∷ []) ∷ []) c
more_wide c [] x y w h = (w.0, w.1, tt)
more_wide c (e ∷ es) x y w h = (h.0, h.1, more_wide c es x y w h.2)

-- what they change
more_other : (es : List Entry) (x r : ℕ) (u : List Change) → (x ≡ r → ⊥) → changes_of (es ++ (x, u) ∷ []) r ≡ changes_of es r
more_other [] x r u n = ap (λ b. if b then u else []) (eq_false x r n)
more_other (e ∷ es) x r u n = ap (λ l. if nat_eq e.0 r then e.1 else l) (more_other es x r u n)

more_here : (es : List Entry) (x : ℕ) (u : List Change) → changes_of es x ≡ [] → ((r : ℕ) → changes_below es r → r ≡ x → ⊥) → changes_of (es ++ (x, u) ∷ []) x ≡ u
more_here [] x u e none = ap (λ b. if b then u else []) (eq_true x x refl)
more_here (f ∷ es) x u e none =
    let other : nat_eq f.0 x ≡ false = eq_false f.0 x (none f.0 (inl refl)) in
    ap (λ b. if b then f.1 else changes_of (es ++ (x, u) ∷ []) x) other ∙ more_here es x u (sym (ap (λ b. if b then f.1 else changes_of es x) other) ∙ e) (λ r i. none r (inr i))

module _ (z : Sizes) (c : Parts) (v : IsMap z c) (k x : ℤ) (s p : ℕ) (s_in : s < z.stripes) (in_place : p < z.places) (none : NoneHere z c k) (free : is_live (part_of c (key_part z p)) ≡ false)
    (r0 : ℕ) (room : natural (word (part_of c s) 0) ≡ suc r0) (small : z.keys < 2 ^ 32) (k_fits : FitsSigned w64 k) (x_fits : FitsSigned w64 x) where
  abbrev es : List Entry
  es = added z k x s p

  abbrev after : Parts
  after = applied_updates es c

  abbrev overs : List Entry
  overs = overs_from z k p (pos 1) 0 z.places

  abbrev overs_then : List Entry
  overs_then = overs ++ (value_part z p, C.Put x ∷ []) ∷ []

  pub rising : IsRisingFrom 0 es
  rising = (
    omega arith,
    (
      omega (arith, s_in),
      more_rise (key_part z p + 1) overs (value_part z p) (C.Put x ∷ []) (overs-rise z k p (pos 1) (key_part z p + 1) 0 z.places (omega (arith, in_place))) (omega arith)
          (λ r h. let w : (i : ℕ) × (i < 0 + z.places) × (over_part z i ≡ r) = overs_changed z k p (pos 1) 0 z.places r h in omega (arith, w.1, w.2)),
    ),
  )

  pub changes : EachChanges es
  changes = (refl, (refl, more_change overs (value_part z p) x (overs-change z k p (pos 1) 0 z.places)))

  pub wide : HasWidths es c
  wide = (
    (room_wide z c v s s_in).0,
    (room_wide z c v s s_in).1,
    ((key_wide z c v p in_place).0, (key_wide z c v p in_place).1, more_wide c overs (value_part z p) x (value_wide z c v p in_place) (overs-wide z k p (pos 1) c 0 z.places (omega arith) (λ r l. over_wide z c v r l))),
  )

  at : (y : ℕ) → part_of after y ≡ applied_all (changes_of es y) (part_of c y)
  at y = part_of-applied 0 es c y rising wide

  pick : (y : ℕ) (i j : Bool) → nat_eq s y ≡ i → nat_eq (key_part z p) y ≡ j → changes_of es y ≡ (if i then C.Add (negsuc 0) ∷ [] else (if j then C.Put (pos 1) ∷ C.Put k ∷ [] else changes_of overs_then y))
  pick y i j e f =
      ap (λ b. if b then C.Add (negsuc 0) ∷ [] else (if nat_eq (key_part z p) y then C.Put (pos 1) ∷ C.Put k ∷ [] else changes_of overs_then y)) e
      ∙ ap (λ b. if i then C.Add (negsuc 0) ∷ [] else (if b then C.Put (pos 1) ∷ C.Put k ∷ [] else changes_of overs_then y)) f

  room_there : part_of after s ≡ applied_all (C.Add (negsuc 0) ∷ []) (part_of c s)
  room_there = at s ∙ ap (λ cs. applied_all cs (part_of c s)) (pick s true false (eq_true s s refl) (eq_false (key_part z p) s (λ e. omega (arith, e, s_in))))

  kept : (y : ℕ) → (s ≡ y → ⊥) → (key_part z p ≡ y → ⊥) → (value_part z p ≡ y → ⊥) → changes_of overs y ≡ [] → part_of after y ≡ part_of c y
  kept y m n u o = at y ∙ ap (λ cs. applied_all cs (part_of c y)) (pick y false false (eq_false s y m) (eq_false (key_part z p) y n) ∙ more_other overs (value_part z p) y (C.Put x ∷ []) u ∙ o)

  room_kept : (t : ℕ) → t < z.stripes → (t ≡ s → ⊥) → part_of after t ≡ part_of c t
  room_kept t l n = kept t (λ e. n (sym e)) (λ e. omega (arith, e, l)) (λ e. omega (arith, e, l)) (overs-none z k p (pos 1) t 0 z.places (λ r u w e. omega (arith, e, l)))

  key_there : part_of after (key_part z p) ≡ pos 1 ∷ k ∷ []
  key_there =
      at (key_part z p) ∙ ap (λ cs. applied_all cs (part_of c (key_part z p))) (pick (key_part z p) false true (eq_false s (key_part z p) (λ e. omega (arith, e, s_in))) (eq_true (key_part z p) (key_part z p) refl))
      ∙ two_puts (pos 1) k (part_of c (key_part z p)) (key_wide z c v p in_place).1

  key_kept : (q : ℕ) → q < z.places → (q ≡ p → ⊥) → part_of after (key_part z q) ≡ part_of c (key_part z q)
  key_kept q l n =
      kept (key_part z q) (λ e. omega (arith, e, s_in)) (λ e. n (omega (arith, e))) (λ e. omega (arith, e, l)) (overs-none z k p (pos 1) (key_part z q) 0 z.places (λ r u w e. omega (arith, e, l)))

  value_kept : (q : ℕ) → q < z.places → (q ≡ p → ⊥) → part_of after (value_part z q) ≡ part_of c (value_part z q)
  value_kept q l n =
      kept (value_part z q) (λ e. omega (arith, e, s_in)) (λ e. omega (arith, e, in_place)) (λ e. n (omega (arith, e))) (overs-none z k p (pos 1) (value_part z q) 0 z.places (λ r u w e. omega (arith, e, w)))

  value_there : part_of after (value_part z p) ≡ x ∷ []
  value_there =
      at (value_part z p)
      ∙ ap (λ cs. applied_all cs (part_of c (value_part z p)))
      (pick (value_part z p) false false (eq_false s (value_part z p) (λ e. omega (arith, e, s_in))) (eq_false (key_part z p) (value_part z p) (λ e. omega (arith, e, in_place)))
      ∙ more_here overs (value_part z p) (C.Put x ∷ []) (overs-none z k p (pos 1) (value_part z p) 0 z.places (λ r u w e. omega (arith, e, w)))
      (λ r h e. let w : (i : ℕ) × (i < 0 + z.places) × (over_part z i ≡ r) = overs_changed z k p (pos 1) 0 z.places r h in omega (arith, w.1, w.2, e)))
      ∙ one_put x (part_of c (value_part z p)) (value_wide z c v p in_place).1

  over_there : (q : ℕ) → q < z.places → part_of after (over_part z q) ≡ applied_all (down z k p (pos 1) (before z k q p)) (part_of c (over_part z q))
  over_there q l =
      at (over_part z q)
      ∙ ap (λ cs. applied_all cs (part_of c (over_part z q)))
      (pick (over_part z q) false false (eq_false s (over_part z q) (λ e. omega (arith, e, s_in))) (eq_false (key_part z p) (over_part z q) (λ e. omega (arith, e, in_place)))
      ∙ more_other overs (value_part z p) (over_part z q) (C.Put x ∷ []) (λ e. omega (arith, e, l)) ∙ overs-at z k p (pos 1) 0 z.places q (omega arith) (omega (arith, l)))

  -- what is live
  now_live : is_live (part_of after (key_part z p)) ≡ true
  now_live = ap is_live key_there

  now_key : key_of (part_of after (key_part z p)) ≡ k
  now_key = ap key_of key_there

  now_holds : holds k (part_of after (key_part z p)) ≡ true
  now_holds = λ i. now_live i && equal_of (key_of (part_of after (key_part z p))) k now_key i

  passes_now : (q : ℕ) → passes z after q p ≡ one (before z k q p)
  passes_now q = λ i. one (now_live i && before z (now_key i) q p)

  passed_not : (q : ℕ) → passes z c q p ≡ 0
  passed_not q = ap (λ b. one (b && before z (key_of (part_of c (key_part z p))) q p)) free

  passes_kept : (q r : ℕ) → r < z.places → (r ≡ p → ⊥) → passes z c q r ≡ passes z after q r
  passes_kept q r l n = ap (λ ws. one (is_live ws && before z (key_of ws) q r)) (sym (key_kept r l n))

  total_more : (q : ℕ) → total z.places (passes z after q) ≡ total z.places (passes z c q) + one (before z k q p)
  total_more q =
      let t : total z.places (passes z after q) + passes z c q p ≡ total z.places (passes z c q) + passes z after q p = total-but z.places (passes z c q) (passes z after q) p in_place (λ r l n. passes_kept q r l n) in
      omega (arith, t, passes_now q, passed_not q)

  abbrev live_one : Parts → ℕ → ℕ
  live_one d q = one (is_live (part_of d (key_part z q)))

  at_most : (a b : Bool) → one (a && b) ≤ one a
  at_most true true = omega arith
  at_most true false = omega arith
  at_most false b = omega arith

  over_few : (q : ℕ) → total z.places (passes z c q) < 2 ^ 32
  over_few q =
      let l : total z.places (passes z c q) ≤ count z c = total-le z.places (passes z c q) (live_one c) (λ r b. at_most (is_live (part_of c (key_part z r))) (before z (key_of (part_of c (key_part z r))) q r)) in
      omega (arith, l, v.counted, small)

  over_word : (q : ℕ) → q < z.places → part_of c (over_part z q) ≡ pos (total z.places (passes z c q)) ∷ []
  over_word q l = one_word (part_of c (over_part z q)) (over_wide z c v q l).1 ∙ ap (λ y. y ∷ []) (v.overs q l)

  over_more : (q : ℕ) (b : Bool) → before z k q p ≡ b → word (applied_all (down z k p (pos 1) b) (pos (total z.places (passes z c q)) ∷ [])) 0 ≡ pos (total z.places (passes z after q))
  over_more q true e =
      let t : total z.places (passes z after q) ≡ suc (total z.places (passes z c q)) = omega (arith, total_more q, ap one e) in
      one_more (total z.places (passes z c q)) (over_few q) ∙ ap pos (sym t)
  over_more q false e = let t : total z.places (passes z c q) ≡ total z.places (passes z after q) = omega (arith, total_more q, ap one e) in ap pos t

  -- rooms and keys
  abbrev room_of : Parts → ℕ → ℕ
  room_of d t = natural (word (part_of d t) 0)

  room_word : word (part_of after s) 0 ≡ pos r0
  room_word =
      let w : part_of c s ≡ pos (room_of c s) ∷ [] = one_word (part_of c s) (room_wide z c v s s_in).1 ∙ ap (λ y. y ∷ []) (natural_is (word (part_of c s) 0) (v.natural_rooms s s_in)) in
      let f : FitsSigned w64 (pos (room_of c s)) = subst (FitsSigned w64) (natural_is (word (part_of c s) 0) (v.natural_rooms s s_in)) (word_fits (part_of c s) 0 (part_fits c s v.fits)) in
      ap (λ ws. word ws 0) (room_there ∙ ap (applied_all (C.Add (negsuc 0) ∷ [])) w) ∙ one_less (room_of c s) r0 room f

  counted_after : rooms z after + count z after ≡ z.keys
  counted_after =
      let r : total z.stripes (room_of after) + room_of c s ≡ total z.stripes (room_of c) + room_of after s = total-but z.stripes (room_of c) (room_of after) s s_in (λ t l n. ap (λ ws. natural (word ws 0)) (sym (room_kept t l n))) in
      let q : total z.places (live_one after) + live_one c p ≡ total z.places (live_one c) + live_one after p =
      total-but z.places (live_one c) (live_one after) p in_place (λ t l n. ap (λ ws. one (is_live ws)) (sym (key_kept t l n))) in
      let rn : room_of after s ≡ r0 = ap natural room_word in
      let lo : live_one c p ≡ 0 = ap one free in
      let ln : live_one after p ≡ 1 = ap one now_live in
      omega (arith, r, q, rn, room, lo, ln, v.counted)

  one_key : (i : ℤ) → holds i (part_of after (key_part z p)) ≡ true → i ≡ k
  one_key i h = sym (same_of (key_of (part_of after (key_part z p))) i (both_true (is_live (part_of after (key_part z p))) (int_eq (key_of (part_of after (key_part z p))) i) h).1) ∙ now_key

  -- who holds a key
  only_there : (q : ℕ) → q < z.places → holds k (part_of after (key_part z q)) ≡ true → q ≡ p
  only_there q l h = elim (same_numbers q p) [
    | inl same ↦ same
    | inr other ↦ absurd (true_is_not (sym h ∙ ap (holds k) (key_kept q l other) ∙ none q l))
  ]

  once_after : (q r : ℕ) (i : ℤ) → q < z.places → r < z.places → holds i (part_of after (key_part z q)) ≡ true → holds i (part_of after (key_part z r)) ≡ true → q ≡ r
  once_after q r i l m f g = elim (same_numbers q p) [
    | inl same ↦
        let e : i ≡ k = one_key i (sym (ap (λ y. holds i (part_of after (key_part z y))) same) ∙ f) in
        same ∙ sym (only_there r m (sym (ap (λ y. holds y (part_of after (key_part z r))) e) ∙ g))
    | inr other ↦
        elim (same_numbers r p) [
          | inl same ↦
              let e : i ≡ k = one_key i (sym (ap (λ y. holds i (part_of after (key_part z y))) same) ∙ g) in
              only_there q l (sym (ap (λ y. holds y (part_of after (key_part z q))) e) ∙ f) ∙ sym same
          | inr far ↦ v.once q r i l m (sym (ap (holds i) (key_kept q l other)) ∙ f) (sym (ap (holds i) (key_kept r m far)) ∙ g)
        ]
  ]

  pub is_added : IsMap z after
  is_added = record {
    widths = widths_after es c ∙ v.widths;
    fits = fits_after es c ((tt, tt), ((record { sfits = omega arith }, (k_fits, tt)), more_fit overs (value_part z p) x x_fits (overs-fit z k p (pos 1) 0 z.places))) v.fits;
    bits = λ q l. elim (same_numbers q p) [
      | inl same ↦ subst (λ (r : ℕ). word (part_of after (key_part z r)) 0 ≡ pos (one (is_live (part_of after (key_part z r))))) (sym same) (ap (λ ws. word ws 0) key_there ∙ sym (ap (λ b. pos (one b)) now_live))
      | inr other ↦ subst (λ (ws : List ℤ). word ws 0 ≡ pos (one (is_live ws))) (sym (key_kept q l other)) (v.bits q l)
    ];
    once = once_after;
    overs = λ q l. ap (λ ws. word ws 0) (over_there q l) ∙ ap (λ ws. word (applied_all (down z k p (pos 1) (before z k q p)) ws) 0) (over_word q l) ∙ over_more q (before z k q p) refl;
    natural_rooms = λ t l. elim (same_numbers t s) [
      | inl same ↦ subst IsNatural (sym (ap (λ r. word (part_of after r) 0) same ∙ room_word)) tt
      | inr other ↦ subst IsNatural (sym (ap (λ ws. word ws 0) (room_kept t l other))) (v.natural_rooms t l)
    ];
    counted = counted_after;
  }

  -- the rows
  not_other : (i : ℤ) → (k ≡ i → ⊥) → holds i (part_of after (key_part z p)) ≡ false
  not_other i n = by_test (holds i (part_of after (key_part z p))) (λ t. absurd (n (sym (one_key i t)))) (λ t. t)

  others_kept : (i : ℤ) (n : ℕ) → n ≤ z.places → (k ≡ i → ⊥) → value_at (placed z after n) i ≡ value_at (placed z c n) i
  others_kept i zero l n = refl
  others_kept i (suc q) l n =
      let rest : value_at (placed z after q) i ≡ value_at (placed z c q) i = others_kept i q (omega (arith, l)) n in
      elim (same_numbers q p) [
        | inl same ↦
            let now : holds i (part_of after (key_part z q)) ≡ false = ap (λ r. holds i (part_of after (key_part z r))) same ∙ not_other i n in
            let was : holds i (part_of c (key_part z q)) ≡ false = ap (λ r. holds i (part_of c (key_part z r))) same ∙ ap (λ b. b && int_eq (key_of (part_of c (key_part z p))) i) free in
            value_past z after i q now ∙ rest ∙ sym (value_past z c i q was)
        | inr other ↦
            let key : part_of after (key_part z q) ≡ part_of c (key_part z q) = key_kept q (omega (arith, l)) other in
            let value : value_of z after q ≡ value_of z c q = ap (λ ws. word ws 0) (value_kept q (omega (arith, l)) other) in
            by_test (holds i (part_of c (key_part z q)))
            (λ t. value_here z after i q (ap (holds i) key ∙ t) ∙ ap Some value ∙ sym (value_here z c i q t))
            (λ t. value_past z after i q (ap (holds i) key ∙ t) ∙ rest ∙ sym (value_past z c i q t))
      ]

  pub rows_more : map_rows z after ≡ with_row (map_rows z c) k x
  rows_more =
      same_maps (map_rows z after) (with_row (map_rows z c) k x) (rows-rise z after) (IsRising-with_row (map_rows z c) k x (rows-rise z c))
      (λ i.
      by_test (int_eq k i)
      (λ t.
      let same : k ≡ i = same_of k i t in
      let here : value_at (map_rows z after) k ≡ Some (value_of z after p) = one_placed z after k p z.places in_place now_holds only_there in
      ap (value_at (map_rows z after)) (sym same) ∙ here ∙ ap (λ ws. Some (word ws 0)) value_there ∙ sym (value_at-with_row_same (map_rows z c) k x) ∙ ap (value_at (with_row (map_rows z c) k x)) same)
      (λ t.
      let other : k ≡ i → ⊥ = λ e. true_is_not (sym (equal_of k i e) ∙ t) in
      others_kept i z.places (omega arith) other ∙ sym (value_at-with_row_other (map_rows z c) k x i other)))
