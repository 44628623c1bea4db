-- What a look along a key's way finds.
use Rattle.std.specs.Prelude.{◌≡◌, ◌<◌, ◌≤◌, ◌+◌, ◌⊎◌, ℕ, zero, suc, ℤ, pos, nat_lt, Bool, true, false, ◌&&◌, if◌then◌else◌, List, [], ◌∷◌, ◌++◌, refl}
use Rattle.std.specs.Ordering.{int_eq}
use Rattle.std.proofs.Common.{ap, sym, ◌∙◌, arith, subst, inl, inr}
use Rattle.std.proofs.lemmas.Bool.Decides.{nat_tests}
use Rattle.sto_part.specs.Parts.{part_of}
use Rattle.sto_item.specs.declared.item.Item.{Item}
use Rattle.sto_item.specs.declared.item.Item.TheVariants.{Seen, Holds}
use Rattle.sto_item.specs.Agreement.{Agrees}
use Rattle.sto_model.proofs.RowFacts.{by_test, same_of}
use Rattle.sto_type.specs.Known.{Parts}
use Rattle.sto_type.specs.Reading.{items_at, updates_at, IsRead}
use Rattle.sto_type.specs.Observing.{EachRead}
use Rattle.sto_type.specs.Telling.{Telling, Read, reading_of, told_at}
use Rattle.sto_type.specs.Words.{word}
use Rattle.sto_container.specs.Places.{wrapped, next, offset, next_below, offset_below, wrapped_next, wrapped_offset, offset_wrapped, wrapped_below, is_live}
use Rattle.sto_map.specs.Counts.{total, one, one-total}
use Rattle.sto_map.specs.Mapped.{Sizes, AreSizes, key_part, over_part, key_of, holds, before, passes, IsMap, look}

-- two tellings end alike on contents
pub record EndAlike (r s : Telling) (e : Parts) : Type 0 where
  pub told : told_at r e ≡ told_at s e
  pub items : items_at (reading_of r) e ≡ items_at (reading_of s) e
  pub updates : updates_at (reading_of r) e ≡ updates_at (reading_of s) e

pub same_end : (r : Telling) (e : Parts) → EndAlike r r e
same_end r e = record { told = refl; items = refl; updates = refl }

pub then_alike : (r s t : Telling) (e : Parts) → EndAlike r s e → EndAlike s t e → EndAlike r t e
then_alike r s t e f g = record { told = f.told ∙ g.told; items = f.items ∙ g.items; updates = f.updates ∙ g.updates }

both_true : (a b : Bool) → (a && b) ≡ true → (a ≡ true) × (b ≡ true)
both_true true b e = (refl, e)
both_true false b e = cc

-- a step of a look, by what stands at the place
module _ (z : Sizes) (k : ℤ) (found : ℕ → Telling) (absent : List Item → Telling) where
  abbrev rest : ℕ → ℕ → List Item → Telling
  rest left p seen =
      Read (over_part z p)
      (λ os. if int_eq (word os 0) (pos 0) then absent (seen ++ Seen (key_part z p) ∷ Seen (over_part z p) ∷ []) else look z k found absent left (next z.places p) (seen ++ Seen (key_part z p) ∷ []))

  abbrev here_or : Bool → ℕ → ℕ → List Item → Telling
  here_or b left p seen = if b then found p else rest left p seen

  abbrev stop_or : Bool → ℕ → ℕ → List Item → Telling
  stop_or b left p seen = if b then absent (seen ++ Seen (key_part z p) ∷ Seen (over_part z p) ∷ []) else look z k found absent left (next z.places p) (seen ++ Seen (key_part z p) ∷ [])

  module _ (e : Parts) (left p : ℕ) (seen : List Item) where
    abbrev this : Telling
    this = look z k found absent (suc left) p seen

    pub step_found : holds k (part_of e (key_part z p)) ≡ true → EndAlike this (found p) e
    step_found h = record {
      told = ap (λ b. told_at (here_or b left p seen) e) h;
      items = ap (λ b. items_at (reading_of (here_or b left p seen)) e) h;
      updates = ap (λ b. updates_at (reading_of (here_or b left p seen)) e) h;
    }

    passed : holds k (part_of e (key_part z p)) ≡ false → EndAlike this (rest left p seen) e
    passed h = record {
      told = ap (λ b. told_at (here_or b left p seen) e) h;
      items = ap (λ b. items_at (reading_of (here_or b left p seen)) e) h;
      updates = ap (λ b. updates_at (reading_of (here_or b left p seen)) e) h;
    }

    stopped : (b : Bool) → int_eq (word (part_of e (over_part z p)) 0) (pos 0) ≡ b → EndAlike (rest left p seen) (stop_or b left p seen) e
    stopped b h = record {
      told = ap (λ b. told_at (stop_or b left p seen) e) h;
      items = ap (λ b. items_at (reading_of (stop_or b left p seen)) e) h;
      updates = ap (λ b. updates_at (reading_of (stop_or b left p seen)) e) h;
    }

    pub step_stop : holds k (part_of e (key_part z p)) ≡ false → int_eq (word (part_of e (over_part z p)) 0) (pos 0) ≡ true → EndAlike this (absent (seen ++ Seen (key_part z p) ∷ Seen (over_part z p) ∷ [])) e
    step_stop h o = then_alike this (rest left p seen) (stop_or true left p seen) e (passed h) (stopped true o)

    pub step_on :
        holds k (part_of e (key_part z p)) ≡ false → int_eq (word (part_of e (over_part z p)) 0) (pos 0) ≡ false
        → EndAlike this (look z k found absent left (next z.places p) (seen ++ Seen (key_part z p) ∷ [])) e
    step_on h o = then_alike this (rest left p seen) (stop_or false left p seen) e (passed h) (stopped false o)

    -- what a step reads
    pub reads_key : IsRead (reading_of this) e (key_part z p)
    reads_key = inl refl

    pub reads_found : holds k (part_of e (key_part z p)) ≡ true → (x : ℕ) → IsRead (reading_of (found p)) e x → IsRead (reading_of this) e x
    reads_found h x r = inr (subst (λ (b : Bool). IsRead (reading_of (here_or b left p seen)) e x) (sym h) r)

    pub reads_over : holds k (part_of e (key_part z p)) ≡ false → IsRead (reading_of this) e (over_part z p)
    reads_over h = inr (subst (λ (b : Bool). IsRead (reading_of (here_or b left p seen)) e (over_part z p)) (sym h) (inl refl))

    pub reads_on :
        holds k (part_of e (key_part z p)) ≡ false → int_eq (word (part_of e (over_part z p)) 0) (pos 0) ≡ false
        → (x : ℕ) → IsRead (reading_of (look z k found absent left (next z.places p) (seen ++ Seen (key_part z p) ∷ []))) e x → IsRead (reading_of this) e x
    reads_on h o x r =
        inr (subst (λ (b : Bool). IsRead (reading_of (here_or b left p seen)) e x) (sym h) (inr (subst (λ (b : Bool). IsRead (reading_of (stop_or b left p seen)) e x) (sym o) r)))

-- a key stands at a place
pub record IsHere (z : Sizes) (e : Parts) (k : ℤ) (p : ℕ) : Type 0 where
  pub below : p < z.places
  pub holds : holds k (part_of e (key_part z p)) ≡ true

pos_zero : (n : ℕ) → pos n ≡ pos 0 → n ≡ 0
pos_zero n e = cc

is_zero : (w : ℤ) → int_eq w (pos 0) ≡ true → w ≡ pos 0
is_zero w e = same_of w (pos 0) e

module _ (z : Sizes) (a : AreSizes z) (e : Parts) (v : IsMap z e) (k : ℤ) where
  abbrev pub home : ℕ
  home = z.home k

  -- where the over of q is 0 no key stands behind q on a way through q
  pub none_behind : (q p : ℕ) → q < z.places → word (part_of e (over_part z q)) 0 ≡ pos 0 → IsHere z e k p → before z k q p ≡ false
  none_behind q p l o h =
      let empty : total z.places (passes z e q) ≡ 0 = pos_zero (total z.places (passes z e q)) (sym (v.overs q l) ∙ o) in
      let least : passes z e q p ≤ total z.places (passes z e q) = one-total z.places (passes z e q) p h.below in
      let t : (is_live (part_of e (key_part z p)) ≡ true) × (int_eq (key_of (part_of e (key_part z p))) k ≡ true) = both_true (is_live (part_of e (key_part z p))) (int_eq (key_of (part_of e (key_part z p))) k) h.holds in
      let same : key_of (part_of e (key_part z p)) ≡ k = same_of (key_of (part_of e (key_part z p))) k t.1 in
      let is : passes z e q p ≡ one (before z k q p) = (λ i. one (t.0 i && before z (same i) q p)) in
      by_test (before z k q p) (λ b. let full : one (before z k q p) ≡ 1 = ap one b in absurd (omega (arith, empty, least, is, full))) (λ b. b)

  -- the place so far on the way
  abbrev pub on_way : ℕ → ℕ
  on_way j = wrapped z.places (home + j)

  way_below : (j : ℕ) → j < z.places → on_way j < z.places
  way_below j l = wrapped_below z.places home j (a.homes k) (omega (arith, l))

  way_next : (j : ℕ) → j < z.places → next z.places (on_way j) ≡ on_way (suc j)
  way_next j l = wrapped_next z.places home j (a.homes k) l

  abbrev pub distance : (p : ℕ) → ℕ
  distance p = offset z.places home p

-- what an absent key has seen, from place p on
abbrev pub missed : Sizes → ℕ → ℕ → List Item → Parts → List Item
missed z zero p seen e = seen
missed z (suc left) p seen e =
    if int_eq (word (part_of e (over_part z p)) 0) (pos 0) then seen ++ Seen (key_part z p) ∷ Seen (over_part z p) ∷ [] else missed z left (next z.places p) (seen ++ Seen (key_part z p) ∷ []) e

module _ (z : Sizes) (left p : ℕ) (seen : List Item) (e : Parts) where
  missed_stop : int_eq (word (part_of e (over_part z p)) 0) (pos 0) ≡ true → missed z (suc left) p seen e ≡ seen ++ Seen (key_part z p) ∷ Seen (over_part z p) ∷ []
  missed_stop o = ap (λ b. if b then seen ++ Seen (key_part z p) ∷ Seen (over_part z p) ∷ [] else missed z left (next z.places p) (seen ++ Seen (key_part z p) ∷ []) e) o

  missed_on : int_eq (word (part_of e (over_part z p)) 0) (pos 0) ≡ false → missed z (suc left) p seen e ≡ missed z left (next z.places p) (seen ++ Seen (key_part z p) ∷ []) e
  missed_on o = ap (λ b. if b then seen ++ Seen (key_part z p) ∷ Seen (over_part z p) ∷ [] else missed z left (next z.places p) (seen ++ Seen (key_part z p) ∷ []) e) o

-- items in two lists
pub agrees_both : (e d : Parts) (xs ys : List Item) → Agrees e (xs ++ ys) d → Agrees e xs d × Agrees e ys d
agrees_both e d [] ys h = (tt, h)
agrees_both e d (Seen p ∷ xs) ys h = let r : Agrees e xs d × Agrees e ys d = agrees_both e d xs ys h.1 in ((h.0, r.0), r.1)
agrees_both e d (Holds p ∷ xs) ys h = let r : Agrees e xs d × Agrees e ys d = agrees_both e d xs ys h.1 in ((h.0, r.0), r.1)

pub both_agree : (e d : Parts) (xs ys : List Item) → Agrees e xs d → Agrees e ys d → Agrees e (xs ++ ys) d
both_agree e d [] ys f g = g
both_agree e d (Seen p ∷ xs) ys f g = (f.0, both_agree e d xs ys f.1 g)
both_agree e d (Holds p ∷ xs) ys f g = (f.0, both_agree e d xs ys f.1 g)

pub both_read : (r : Telling) (e : Parts) (xs ys : List Item) → EachRead (reading_of r) e xs → EachRead (reading_of r) e ys → EachRead (reading_of r) e (xs ++ ys)
both_read r e [] ys f g = g
both_read r e (x ∷ xs) ys f g = (f.0, both_read r e xs ys f.1 g)

-- what agrees with what was missed agrees with what was seen before, and on each key part that was met
module _ (z : Sizes) (e c : Parts) where
  pub missed_keeps : (left p : ℕ) (seen : List Item) → Agrees e (missed z left p seen c) c → Agrees e seen c
  missed_keeps zero p seen g = g
  missed_keeps (suc left) p seen g =
      by_test (int_eq (word (part_of c (over_part z p)) 0) (pos 0))
      (λ o. (agrees_both e c seen (Seen (key_part z p) ∷ Seen (over_part z p) ∷ []) (subst (λ (is : List Item). Agrees e is c) (missed_stop z left p seen c o) g)).0)
      (λ o. (agrees_both e c seen (Seen (key_part z p) ∷ []) (missed_keeps left (next z.places p) (seen ++ Seen (key_part z p) ∷ []) (subst (λ (is : List Item). Agrees e is c) (missed_on z left p seen c o) g))).0)

  pub missed_key : (left p : ℕ) (seen : List Item) → Agrees e (missed z (suc left) p seen c) c → part_of e (key_part z p) ≡ part_of c (key_part z p)
  missed_key left p seen g =
      by_test (int_eq (word (part_of c (over_part z p)) 0) (pos 0))
      (λ o. (agrees_both e c seen (Seen (key_part z p) ∷ Seen (over_part z p) ∷ []) (subst (λ (is : List Item). Agrees e is c) (missed_stop z left p seen c o) g)).1.0)
      (λ o. (agrees_both e c seen (Seen (key_part z p) ∷ []) (missed_keeps left (next z.places p) (seen ++ Seen (key_part z p) ∷ []) (subst (λ (is : List Item). Agrees e is c) (missed_on z left p seen c o) g))).1.0)

  pub missed_over : (left p : ℕ) (seen : List Item) → int_eq (word (part_of c (over_part z p)) 0) (pos 0) ≡ true → Agrees e (missed z (suc left) p seen c) c → part_of e (over_part z p) ≡ part_of c (over_part z p)
  missed_over left p seen o g = (agrees_both e c seen (Seen (key_part z p) ∷ Seen (over_part z p) ∷ []) (subst (λ (is : List Item). Agrees e is c) (missed_stop z left p seen c o) g)).1.1.0

-- a telling comes to what is told where the key is found, and reads what that reads
pub record IsWalk (z : Sizes) (found : ℕ → Telling) (e : Parts) (r : Telling) (p : ℕ) : Type 0 where
  pub ends : EndAlike r (found p) e
  pub reads_key : IsRead (reading_of r) e (key_part z p)
  pub reads : (x : ℕ) → IsRead (reading_of (found p)) e x → IsRead (reading_of r) e x

abbrev pub NoneHere : Sizes → Parts → ℤ → Type 0
NoneHere z e k = (p : ℕ) → p < z.places → holds k (part_of e (key_part z p)) ≡ false

true_is_not : true ≡ false → ⊥
true_is_not e = cc

at_or_before : (j d : ℕ) → j ≤ d → (j ≡ d) ⊎ (j < d)
at_or_before j d l = grind arith

below_true : (j d : ℕ) → j < d → nat_lt j d ≡ true
below_true j d l = grind (arith, nat_tests)

module _ (z : Sizes) (a : AreSizes z) (e : Parts) (v : IsMap z e) (k : ℤ) where
  module _ (p : ℕ) (h : IsHere z e k p) where
    distance_below : distance z a e v k p < z.places
    distance_below = offset_below z.places (z.home k) p (a.homes k) h.below

    -- a place at which the key does not stand is before it, and its over is not 0
    ahead : (j : ℕ) → j < z.places → holds k (part_of e (key_part z (on_way z a e v k j))) ≡ false → j ≤ distance z a e v k p → j < distance z a e v k p
    ahead j l n b = elim (at_or_before j (distance z a e v k p) b) [
      | inl same ↦
          let here : on_way z a e v k j ≡ p = ap (on_way z a e v k) same ∙ wrapped_offset z.places (z.home k) p (a.homes k) h.below in
          absurd (true_is_not (sym h.holds ∙ sym (ap (λ q. holds k (part_of e (key_part z q))) here) ∙ n))
      | inr less ↦ less
    ]

    passed_over : (j : ℕ) → j < distance z a e v k p → int_eq (word (part_of e (over_part z (on_way z a e v k j))) 0) (pos 0) ≡ false
    passed_over j l =
        let b : j < z.places = omega (arith, l, distance_below) in
        by_test (int_eq (word (part_of e (over_part z (on_way z a e v k j))) 0) (pos 0))
        (λ o.
        let none : before z k (on_way z a e v k j) p ≡ false = none_behind z a e v k (on_way z a e v k j) p (way_below z a e v k j b) (is_zero (word (part_of e (over_part z (on_way z a e v k j))) 0) o) h in
        let some : before z k (on_way z a e v k j) p ≡ true =
        ap (λ x. nat_lt x (distance z a e v k p)) (offset_wrapped z.places (z.home k) j (a.homes k) b) ∙ below_true j (distance z a e v k p) l in
        absurd (true_is_not (sym some ∙ none)))
        (λ o. o)

    pub found_walk :
        (found : ℕ → Telling) (absent : List Item → Telling) (left j q : ℕ) (seen : List Item) → left + j ≡ z.places → q ≡ on_way z a e v k j → j ≤ distance z a e v k p
        → IsWalk z found e (look z k found absent left q seen) p
    found_walk found absent zero j q seen s t l = absurd (omega (arith, s, l, distance_below))
    found_walk found absent (suc left) j q seen s t l =
        let b : j < z.places = omega (arith, l, distance_below) in
        let in_range : q < z.places = subst (λ (x : ℕ). x < z.places) (sym t) (way_below z a e v k j b) in
        by_test (holds k (part_of e (key_part z q)))
        (λ y.
        let same : q ≡ p = v.once q p k in_range h.below y h.holds in
        subst (IsWalk z found e (look z k found absent (suc left) q seen)) same
        (record { ends = step_found z k found absent e left q seen y; reads_key = reads_key z k found absent e left q seen; reads = reads_found z k found absent e left q seen y }))
        (λ n.
        let less : j < distance z a e v k p = ahead j b (sym (ap (λ x. holds k (part_of e (key_part z x))) t) ∙ n) l in
        let o : int_eq (word (part_of e (over_part z q)) 0) (pos 0) ≡ false = ap (λ x. int_eq (word (part_of e (over_part z x)) 0) (pos 0)) t ∙ passed_over j less in
        let w : IsWalk z found e (look z k found absent left (next z.places q) (seen ++ Seen (key_part z q) ∷ [])) p =
        found_walk found absent left (suc j) (next z.places q) (seen ++ Seen (key_part z q) ∷ []) (omega (arith, s)) (ap (next z.places) t ∙ way_next z a e v k j b) less in
        record {
          ends = then_alike (look z k found absent (suc left) q seen) (look z k found absent left (next z.places q) (seen ++ Seen (key_part z q) ∷ [])) (found p) e (step_on z k found absent e left q seen n o) w.ends;
          reads_key = reads_on z k found absent e left q seen n o (key_part z p) w.reads_key;
          reads = λ x r. reads_on z k found absent e left q seen n o x (w.reads x r);
        })

    -- where the key is not among what was met on contents that these agree with, it does not stand here at all
    pub not_missed :
        (c : Parts) → NoneHere z c k → (left j q : ℕ) (seen : List Item) → left + j ≡ z.places → q ≡ on_way z a e v k j → j ≤ distance z a e v k p → Agrees e (missed z left q seen c) c → ⊥
    not_missed c none zero j q seen s t l g = omega (arith, s, l, distance_below)
    not_missed c none (suc left) j q seen s t l g =
        let b : j < z.places = omega (arith, l, distance_below) in
        let in_range : q < z.places = subst (λ (x : ℕ). x < z.places) (sym t) (way_below z a e v k j b) in
        let key : part_of e (key_part z q) ≡ part_of c (key_part z q) = missed_key z e c left q seen g in
        let n : holds k (part_of e (key_part z q)) ≡ false = ap (holds k) key ∙ none q in_range in
        let less : j < distance z a e v k p = ahead j b (sym (ap (λ x. holds k (part_of e (key_part z x))) t) ∙ n) l in
        let o : int_eq (word (part_of e (over_part z q)) 0) (pos 0) ≡ false = ap (λ x. int_eq (word (part_of e (over_part z x)) 0) (pos 0)) t ∙ passed_over j less in
        by_test (int_eq (word (part_of c (over_part z q)) 0) (pos 0))
        (λ y.
        let over : part_of e (over_part z q) ≡ part_of c (over_part z q) = missed_over z e c left q seen y g in
        true_is_not (sym y ∙ sym (ap (λ ws. int_eq (word ws 0) (pos 0)) over) ∙ o))
        (λ y. not_missed c none left (suc j) (next z.places q) (seen ++ Seen (key_part z q) ∷ []) (omega (arith, s)) (ap (next z.places) t ∙ way_next z a e v k j b) less (subst (λ (is : List Item). Agrees e is c) (missed_on z left q seen c y) g))

  -- where the key stands nowhere the look says that it is absent, with what was missed
  module _ (none : NoneHere z e k) (found : ℕ → Telling) (absent : List Item → Telling) where
    pub absent_walk : (left q : ℕ) (seen : List Item) → q < z.places → EndAlike (look z k found absent left q seen) (absent (missed z left q seen e)) e
    absent_walk zero q seen l = same_end (absent seen) e
    absent_walk (suc left) q seen l =
        by_test (int_eq (word (part_of e (over_part z q)) 0) (pos 0))
        (λ o. subst (λ (is : List Item). EndAlike (look z k found absent (suc left) q seen) (absent is) e) (sym (missed_stop z left q seen e o)) (step_stop z k found absent e left q seen (none q l) o))
        (λ o. subst (λ (is : List Item). EndAlike (look z k found absent (suc left) q seen) (absent is) e) (sym (missed_on z left q seen e o))
        (then_alike (look z k found absent (suc left) q seen) (look z k found absent left (next z.places q) (seen ++ Seen (key_part z q) ∷ [])) (absent (missed z left (next z.places q) (seen ++ Seen (key_part z q) ∷ []) e)) e (step_on z k found absent e left q seen (none q l) o)
        (absent_walk left (next z.places q) (seen ++ Seen (key_part z q) ∷ []) (next_below z.places q l))))

    -- what is read where it is absent is read
    pub reads_absent : (left q : ℕ) (seen : List Item) → q < z.places → (y : ℕ) → IsRead (reading_of (absent (missed z left q seen e))) e y → IsRead (reading_of (look z k found absent left q seen)) e y
    reads_absent zero q seen l y h = h
    reads_absent (suc left) q seen l y h =
        by_test (int_eq (word (part_of e (over_part z q)) 0) (pos 0))
        (λ o.
        let g : IsRead (reading_of (stop_or z k found absent true left q seen)) e y = subst (λ (is : List Item). IsRead (reading_of (absent is)) e y) (missed_stop z left q seen e o) h in
        inr (subst (λ (b : Bool). IsRead (reading_of (here_or z k found absent b left q seen)) e y) (sym (none q l)) (inr (subst (λ (b : Bool). IsRead (reading_of (stop_or z k found absent b left q seen)) e y) (sym o) g))))
        (λ o.
        reads_on z k found absent e left q seen (none q l) o y
        (reads_absent left (next z.places q) (seen ++ Seen (key_part z q) ∷ []) (next_below z.places q l) y (subst (λ (is : List Item). IsRead (reading_of (absent is)) e y) (missed_on z left q seen e o) h)))

    -- all that was missed was read
    pub missed_read :
        (r : Telling) (left q : ℕ) (seen : List Item) → q < z.places → ((x : ℕ) → IsRead (reading_of (look z k found absent left q seen)) e x → IsRead (reading_of r) e x)
        → EachRead (reading_of r) e seen → EachRead (reading_of r) e (missed z left q seen e)
    missed_read r zero q seen l up all = all
    missed_read r (suc left) q seen l up all =
        by_test (int_eq (word (part_of e (over_part z q)) 0) (pos 0))
        (λ o. subst (λ (is : List Item). EachRead (reading_of r) e is) (sym (missed_stop z left q seen e o))
        (both_read r e seen (Seen (key_part z q) ∷ Seen (over_part z q) ∷ []) all (up (key_part z q) (reads_key z k found absent e left q seen), (up (over_part z q) (reads_over z k found absent e left q seen (none q l)), tt))))
        (λ o. subst (λ (is : List Item). EachRead (reading_of r) e is) (sym (missed_on z left q seen e o))
        (missed_read r left (next z.places q) (seen ++ Seen (key_part z q) ∷ []) (next_below z.places q l) (λ x h. up x (reads_on z k found absent e left q seen (none q l) o x h))
        (both_read r e seen (Seen (key_part z q) ∷ []) all (up (key_part z q) (reads_key z k found absent e left q seen), tt))))

  -- what is read is in range
  module _ (n : ℕ) (found : ℕ → Telling) (absent : List Item → Telling) (key_in : (q : ℕ) → q < z.places → key_part z q < n) (over_in : (q : ℕ) → q < z.places → over_part z q < n)
      (found_in : (p x : ℕ) → p < z.places → IsRead (reading_of (found p)) e x → x < n) (absent_in : (is : List Item) (x : ℕ) → IsRead (reading_of (absent is)) e x → x < n) where
    past :
        (left q : ℕ) (seen : List Item) (x : ℕ) → q < z.places → (IsRead (reading_of (look z k found absent left (next z.places q) (seen ++ Seen (key_part z q) ∷ []))) e x → x < n)
        → IsRead (reading_of (rest z k found absent left q seen)) e x → x < n
    past left q seen x l further (inl over) = subst (λ (y : ℕ). y < n) over (over_in q l)
    past left q seen x l further (inr on) =
        by_test (int_eq (word (part_of e (over_part z q)) 0) (pos 0))
        (λ o. absent_in (seen ++ Seen (key_part z q) ∷ Seen (over_part z q) ∷ []) x (subst (λ (b : Bool). IsRead (reading_of (stop_or z k found absent b left q seen)) e x) o on))
        (λ o. further (subst (λ (b : Bool). IsRead (reading_of (stop_or z k found absent b left q seen)) e x) o on))

    pub look_within : (left q : ℕ) (seen : List Item) → q < z.places → (x : ℕ) → IsRead (reading_of (look z k found absent left q seen)) e x → x < n
    look_within zero q seen l x r = absent_in seen x r
    look_within (suc left) q seen l x (inl first) = subst (λ (y : ℕ). y < n) first (key_in q l)
    look_within (suc left) q seen l x (inr r) =
        by_test (holds k (part_of e (key_part z q)))
        (λ h. found_in q x l (subst (λ (b : Bool). IsRead (reading_of (here_or z k found absent b left q seen)) e x) h r))
        (λ h. past left q seen x l (look_within left (next z.places q) (seen ++ Seen (key_part z q) ∷ []) (next_below z.places q l) x) (subst (λ (b : Bool). IsRead (reading_of (here_or z k found absent b left q seen)) e x) h r))
