-- What is left of a call's items below the pending updates is of parts that were read.
use Rattle.std.proofs.Common.{◌≡◌, ℕ, zero, suc, ◌<◌, ℤ, Bool, true, false, nat_lt, ◌&&◌, List, [], ◌∷◌, length, map, refl, ap, sym, ◌∙◌, subst, arith, inl, inr, slice_index_or, IsSome}
use Rattle.std.specs.Prelude.{◌⊎◌}
use Rattle.std.specs.List.{list_all}
use Rattle.std.proofs.lemmas.Bool.{cases_Bool}
use Rattle.std.proofs.lemmas.Bool.Decides.{nat_tests}
use Rattle.sto_part.specs.Parts.{part_of}
use Rattle.sto_part.specs.declared.change.Change.{Change}
use Rattle.sto_part.specs.declared.change.Change.TheVariants.{Keep, Put, Add}
use Rattle.sto_part.specs.declared.pred.Pred.{Pred}
use Rattle.sto_item.specs.declared.item.Item.{Item}
use Rattle.sto_item.specs.declared.item.Item.TheVariants.{Seen, Holds}
use Rattle.sto_item.specs.Pending.{Entry, changes_of, change_at, is_put}
use Rattle.sto_item.specs.Observed.{part_of_item}
use Rattle.sto_item.specs.Agreement.{HasWidths}
use Rattle.sto_item.specs.Rebase.{overwrites, moved, rebased}
use Rattle.sto_item.proofs.Applied.{same_width}
use Rattle.sto_type.specs.Known.{Parts, Known}
use Rattle.sto_type.specs.Meaning.{EachKnown, EachInside}
use Rattle.sto_attempt_log.specs.Every.{AllOf}
use Rattle.sto_attempt_log.specs.Log.{IsRead, IsInside}
use Rattle.sto_attempt_log.proofs.Every.{all_append}

-- the width of a part, by the list of widths
pub width_of : (d : Parts) (p : ℕ) → slice_index_or (map length d) p 0 ≡ length (part_of d p)
width_of [] zero = refl
width_of [] (suc p) = refl
width_of (ws ∷ d) zero = refl
width_of (ws ∷ d) (suc p) = width_of d p

and_left : (a b : Bool) → (a && b) ≡ true → a ≡ true
and_left true b h = refl
and_left false b h = cc

and_right : (a b : Bool) → (a && b) ≡ true → b ≡ true
and_right true b h = h
and_right false b h = cc

put_of : (c : Change) → is_put c ≡ true → (x : ℤ) × (c ≡ Put x)
put_of Keep h = cc
put_of (Put x) h = (x, refl)
put_of (Add x) h = cc

put_at : (cs : List Change) (w : ℕ) → list_all is_put cs ≡ true → w < length cs → (x : ℤ) × (slice_index_or cs w Keep ≡ Put x)
put_at [] w h l = absurd (omega (arith, l))
put_at (c ∷ cs) zero h l = put_of c (and_left (is_put c) (list_all is_put cs) h)
put_at (c ∷ cs) (suc w) h l = put_at cs w (and_right (is_put c) (list_all is_put cs) h) (omega (arith, l))

-- a word in range of a part that is put whole is put
pub put_whole : (es : List Entry) (d : Parts) (p w : ℕ) → HasWidths es d → overwrites (changes_of es p) ≡ true → w < length (part_of d p) → (x : ℤ) × (change_at es p w ≡ Put x)
put_whole es d p w h o l =
    let some : 0 < length (changes_of es p) = grind (arith, nat_tests) in
    let long : length (changes_of es p) ≡ length (part_of d p) = sym (same_width es d p h some) in
    put_at (changes_of es p) w (and_right (nat_lt 0 (length (changes_of es p))) (list_all is_put (changes_of es p)) o) (omega (arith, l, long))

-- what is true of the part of an item is true of what is left of it
module _ (P : Item → Type 0) where
  all_moved : (p : Pred) (c : Change) → ((q : Pred) → q.part ≡ p.part → q.word ≡ p.word → P (Holds q)) → AllOf P (moved p c)
  all_moved p Keep h = (h p refl refl, tt)
  all_moved p (Put y) h = tt
  all_moved p (Add d) h = (h (record p { shift = _ }) refl refl, tt)

module _ (base k : Known) (es : List Entry) (widths : List ℕ) (d : Parts) (h : HasWidths es d) (same : map length d ≡ widths) (from : (p : ℕ) → IsSome (k p) → IsSome (base p) ⊎ (overwrites (changes_of es p) ≡ true)) where
  pub read_below : (homes : List (ℕ × ℕ)) (object : ℕ) (is : List Item) → EachKnown homes object k is → EachInside widths is → AllOf (IsRead base) (rebased es is)
  read_below homes object [] known inside = tt
  read_below homes object (Seen p ∷ is) known inside = elim (cases_Bool (overwrites (changes_of es p))) [
    | inl hit ↦ rw hit (read_below homes object is known.2 inside)
    | inr miss ↦ elim (from p known.1) [
      | inl read ↦ rw miss (read, read_below homes object is known.2 inside)
      | inr hit ↦ let both : true ≡ false = sym hit ∙ miss in cc
    ]
  ]
  read_below homes object (Holds p ∷ is) known inside = elim (from p.part known.1) [
    | inl read ↦
        all_append (IsRead base) (moved p (change_at es p.part p.word)) (rebased es is)
        (all_moved (IsRead base) p (change_at es p.part p.word) (λ q e f. subst (λ (n : ℕ). IsSome (base n)) (sym e) read)) (read_below homes object is known.2 inside.1)
    | inr hit ↦
        let below : p.word < length (part_of d p.part) = omega (arith, inside.0, ap (λ (l : List ℕ). slice_index_or l p.part 0) (sym same), width_of d p.part) in
        let put : (x : ℤ) × (change_at es p.part p.word ≡ Put x) = put_whole es d p.part p.word h hit below in
        all_append (IsRead base) (moved p (change_at es p.part p.word)) (rebased es is) (subst (λ (c : Change). AllOf (IsRead base) (moved p c)) (sym put.1) tt) (read_below homes object is known.2 inside.1)
  ]

-- what is left names a word of its part
pub inside_below : (widths : List ℕ) (es : List Entry) (is : List Item) → EachInside widths is → AllOf (IsInside widths) (rebased es is)
inside_below widths es [] inside = tt
inside_below widths es (Seen p ∷ is) inside = elim (cases_Bool (overwrites (changes_of es p))) [
  | inl hit ↦ rw hit (inside_below widths es is inside)
  | inr miss ↦ rw miss (tt, inside_below widths es is inside)
]
inside_below widths es (Holds p ∷ is) inside =
    all_append (IsInside widths) (moved p (change_at es p.part p.word)) (rebased es is)
    (all_moved (IsInside widths) p (change_at es p.part p.word) (λ q e f. subst (λ (n : ℕ). q.word < slice_index_or widths n 0) (sym e) (subst (λ (n : ℕ). n < slice_index_or widths p.part 0) (sym f) inside.0)))
    (inside_below widths es is inside.1)

-- what is left is of parts of the call's items
pub parts_below : (P : ℕ → Type 0) (es : List Entry) (is : List Item) → AllOf (λ (i : Item). P (part_of_item i)) is → AllOf (λ (i : Item). P (part_of_item i)) (rebased es is)
parts_below P es [] all = tt
parts_below P es (Seen p ∷ is) all = elim (cases_Bool (overwrites (changes_of es p))) [
  | inl hit ↦ rw hit (parts_below P es is all.1)
  | inr miss ↦ rw miss (all.0, parts_below P es is all.1)
]
parts_below P es (Holds p ∷ is) all =
    let Q : Item → Type 0 = λ i. P (part_of_item i) in
    all_append Q (moved p (change_at es p.part p.word)) (rebased es is)
    (all_moved Q p (change_at es p.part p.word) (λ q e f. subst (λ (n : ℕ). P n) (sym e) all.0)) (parts_below P es is all.1)
