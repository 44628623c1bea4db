-- What tests of words tell.
use Rattle.std.proofs.Common.{◌≡◌, ◌≤ℤ◌, ◌<ℤ◌, ℕ, zero, suc, ℤ, pos, Bool, true, false, ◌&&◌, int_le, Option, Some, None, List, [], ◌∷◌, refl, ◌∙◌, ap, arith}
use Rattle.std.specs.Prelude.{◌+ℤ◌}
use Rattle.std.specs.Int.{w64, int_wrap}
use Rattle.std.specs.Int.RustNames.{FitsSigned}
use Rattle.std.specs.Ordering.{int_eq}
use Rattle.std.proofs.lemmas.Int.{ints, int_wrap_fits}
use Rattle.std.proofs.lemmas.Bool.Decides.{Decides-int_eq}
use Rattle.sto_part.specs.Changes.{wrapped_sum}
use Rattle.sto_part.specs.Parts.{part_of}
use Rattle.sto_type.specs.Known.{Parts, WordsFit, ContentsFit}
use Rattle.sto_model.specs.Rows.{Row}
use Rattle.sto_tree.specs.Layout.{word, slot_of}

pub both_true : (a b : Bool) → (a && b) ≡ true → (a ≡ true) × (b ≡ true)
both_true true b e = (refl, e)
both_true false b e = cc

pub and_true : (a b : Bool) → a ≡ true → b ≡ true → (a && b) ≡ true
and_true a b e f = rw (e, f) refl

pub equal_true : (x y : ℤ) → int_eq x y ≡ true → x ≡ y
equal_true x y = (Decides-int_eq x y).0

pub true_equal : (x y : ℤ) → x ≡ y → int_eq x y ≡ true
true_equal x y = (Decides-int_eq x y).1

pub le_true : (x y : ℤ) → int_le x y ≡ true → x ≤ℤ y
le_true x y e = grind (arith, ints)

pub true_le : (x y : ℤ) → x ≤ℤ y → int_le x y ≡ true
true_le x y e = grind (arith, ints)

pub le_false : (x y : ℤ) → int_le x y ≡ false → y <ℤ x
le_false x y e = grind (arith, ints)

-- a number that fits, with no shift
pub unshifted : (x : ℤ) → FitsSigned w64 x → wrapped_sum x (pos 0) ≡ x
unshifted x f = let e : x +ℤ pos 0 ≡ x = omega (arith, ints) in ap (int_wrap w64) e ∙ int_wrap_fits w64 x f

-- words of contents fit
zero_fits : FitsSigned w64 (pos 0)
zero_fits = search (arith, ints)

word_fits : (ws : List ℤ) (i : ℕ) → WordsFit ws → FitsSigned w64 (word ws i)
word_fits [] i h = zero_fits
word_fits (w ∷ ws) zero h = h.0
word_fits (w ∷ ws) (suc i) h = word_fits ws i h.1

pub part_fits : (c : Parts) (p : ℕ) → ContentsFit c → WordsFit (part_of c p)
part_fits [] p h = tt
part_fits (w ∷ c) zero h = h.0
part_fits (w ∷ c) (suc p) h = part_fits c p h.1

pub fits_at : (c : Parts) (p w : ℕ) → ContentsFit c → FitsSigned w64 (word (part_of c p) w)
fits_at c p w h = word_fits (part_of c p) w (part_fits c p h)

-- what a slot holds
pub slot_some : (b : Bool) (k v : ℤ) (r : Row) → slot_of b k v ≡ Some r → (b ≡ true) × (k ≡ r.0) × (v ≡ r.1)
slot_some true k v r e =
    let same : (k, v) ≡ r = some_same e in
    (refl, ap (λ x. x.0) same, ap (λ x. x.1) same)
  where
    some_same : Some (k, v) ≡ Some r → (k, v) ≡ r
    some_same e = cc
slot_some false k v r e = cc

pub by_option : {A : Type 0} (P : Type 0) (o : Option A) → (o ≡ None → P) → ((x : A) → o ≡ Some x → P) → P
by_option P None f g = f refl
by_option P (Some x) f g = g x refl
