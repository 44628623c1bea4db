-- The predicates of adds and takes tell what they are to tell.
use Rattle.std.specs.Prelude.{◌≡◌, ◌↔◌, ℕ, ℤ, pos, ◌+ℤ◌, ◌-ℤ◌, int_le, Bool, true, false, not, ◌&&◌, if◌then◌else◌, is_some, Some, None, IsTrue, refl}
use Rattle.std.specs.Int.{w64, int_wrap}
use Rattle.std.specs.Int.RustNames.{FitsSigned}
use Rattle.std.proofs.Common.{ap, sym, ◌∙◌, arith, inl, inr}
use Rattle.std.proofs.lemmas.Bool.{cases_Bool}
use Rattle.std.proofs.lemmas.Int.{int_wrap_fits, int_wrap-add_right, ints}
use Rattle.sto_part.specs.Changes.{wrapped_sum}
use Rattle.sto_part.specs.Preds.{compares, negated, holds_of}
use Rattle.sto_part.specs.declared.pred.Test.{Test}
use Rattle.sto_part.specs.declared.pred.Test.TheVariants.{Eq, Ne, Lt, Le, Gt, Ge}
use Rattle.sto_model.specs.Objects.{least, greatest, in_range}
use Rattle.sto_model.specs.Ranges.{in_range-cases}
use Rattle.sto_counter.specs.Sums.{word_pred_of, grows, falls, add_test, add_bound, less}

-- a predicate without a shift, on a number of 64 bits, is its comparison
wrapped_none : (x : ℤ) → FitsSigned w64 x → wrapped_sum x (pos 0) ≡ x
wrapped_none x f = let e : x +ℤ pos 0 ≡ x = omega (arith, ints) in ap (int_wrap w64) e ∙ int_wrap_fits w64 x f

pub holds_plain : (p : ℕ) (test : Test) (bound x : ℤ) → FitsSigned w64 x → holds_of (word_pred_of p test bound) x ≡ compares test x bound
holds_plain p test bound x f = ap (λ y. compares test y bound) (wrapped_none x f)

not_not : (b : Bool) → b ≡ not (not b)
not_not true = refl
not_not false = refl

pub compares-negated : (t : Test) (x y : ℤ) → compares (negated t) x y ≡ not (compares t x y)
compares-negated Eq x y = refl
compares-negated Ne x y = not_not (compares Eq x y)
compares-negated Lt x y = grind (arith, ints)
compares-negated Le x y = grind (arith, ints)
compares-negated Gt x y = grind (arith, ints)
compares-negated Ge x y = grind (arith, ints)

if_some : (b : Bool) (x : ℤ) → is_some (if b then Some x else None) ≡ b
if_some true x = refl
if_some false x = refl

-- a test of both ends
ends : (x : ℤ) → is_some (in_range x) ≡ (int_le least x && int_le x greatest)
ends x = if_some (int_le least x && int_le x greatest) x

-- the sum is in range exactly where the predicate says so
grows-up : (d x : ℤ) → FitsSigned w64 d → FitsSigned w64 x → int_le (pos 0) d ≡ true → int_le x (greatest -ℤ d) ≡ grows d x
grows-up d x f g u = let l = f.sfits in let h = g.sfits in let e = ends (x +ℤ d) in grind (arith, ints)

grows-down : (d x : ℤ) → FitsSigned w64 d → FitsSigned w64 x → int_le (pos 0) d ≡ false → int_le (least -ℤ d) x ≡ grows d x
grows-down d x f g u = let l = f.sfits in let h = g.sfits in let e = ends (x +ℤ d) in grind (arith, ints)

pub falls-up : (d x : ℤ) → FitsSigned w64 d → FitsSigned w64 x → int_le (pos 0) d ≡ true → int_le d x ≡ true → falls d x ≡ true
falls-up d x f g u e = let l = f.sfits in let h = g.sfits in let z = ends (x -ℤ d) in grind (arith, ints)

pub falls-down : (d x : ℤ) → FitsSigned w64 d → FitsSigned w64 x → int_le (pos 0) d ≡ false → int_le d x ≡ true → int_le x (greatest +ℤ d) ≡ falls d x
falls-down d x f g u e = let l = f.sfits in let h = g.sfits in let z = ends (x -ℤ d) in grind (arith, ints)

-- an add is observed as it came out
pub add_observed : (p : ℕ) (d x : ℤ) (b : Bool) → FitsSigned w64 d → FitsSigned w64 x → IsTrue (holds_of (word_pred_of p (add_test d b) (add_bound d)) x) ↔ (grows d x ≡ b)
add_observed p d x b f g = elim (cases_Bool (int_le (pos 0) d)) [
  | inl u ↦ rw u (up b u)
  | inr u ↦ rw u (down b u)
]
  where
    up : (b : Bool) → int_le (pos 0) d ≡ true → IsTrue (holds_of (word_pred_of p (if b then Le else Gt) (greatest -ℤ d)) x) ↔ (grows d x ≡ b)
    up true u = let e = grows-up d x f g u in let z = holds_plain p Le (greatest -ℤ d) x g in (λ h. sym e ∙ sym z ∙ h, λ h. z ∙ e ∙ h)
    up false u =
        let e = grows-up d x f g u in
        let z = holds_plain p Gt (greatest -ℤ d) x g ∙ compares-negated Le x (greatest -ℤ d) ∙ ap not e in
        (λ h. not_not (grows d x) ∙ ap not (sym z ∙ h), λ h. z ∙ ap not h)

    down : (b : Bool) → int_le (pos 0) d ≡ false → IsTrue (holds_of (word_pred_of p (if b then Ge else Lt) (least -ℤ d)) x) ↔ (grows d x ≡ b)
    down true u = let e = grows-down d x f g u in let z = holds_plain p Ge (least -ℤ d) x g in (λ h. sym e ∙ sym z ∙ h, λ h. z ∙ e ∙ h)
    down false u =
        let e = grows-down d x f g u in
        let z = holds_plain p Lt (least -ℤ d) x g ∙ compares-negated Ge x (least -ℤ d) ∙ ap not e in
        (λ h. not_not (grows d x) ∙ ap not (sym z ∙ h), λ h. z ∙ ap not h)

-- adding what is less by d is taking d away
pub less_is : (d x : ℤ) → wrapped_sum x (less d) ≡ int_wrap w64 (x -ℤ d)
less_is d x = let e : x +ℤ (pos 0 -ℤ d) ≡ x -ℤ d = omega (arith, ints) in int_wrap-add_right w64 x (pos 0 -ℤ d) ∙ ap (int_wrap w64) e

-- where the sum is in range, it is what the update makes
pub grown : (d x : ℤ) → grows d x ≡ true → (in_range (x +ℤ d) ≡ Some (x +ℤ d)) × (wrapped_sum x d ≡ x +ℤ d)
grown d x e = elim (in_range-cases (x +ℤ d)) [
  | inl c ↦ (c.1, int_wrap_fits w64 (x +ℤ d) c.0)
  | inr c ↦ let z : false ≡ true = sym (ap is_some c.1) ∙ e in cc
]

pub not_grown : (d x : ℤ) → grows d x ≡ false → in_range (x +ℤ d) ≡ None
not_grown d x e = elim (in_range-cases (x +ℤ d)) [
  | inl c ↦ let z : true ≡ false = sym (ap is_some c.1) ∙ e in cc
  | inr c ↦ c.1
]

pub fallen : (d x : ℤ) → falls d x ≡ true → (in_range (x -ℤ d) ≡ Some (x -ℤ d)) × (wrapped_sum x (less d) ≡ x -ℤ d)
fallen d x e = elim (in_range-cases (x -ℤ d)) [
  | inl c ↦ (c.1, less_is d x ∙ int_wrap_fits w64 (x -ℤ d) c.0)
  | inr c ↦ let z : false ≡ true = sym (ap is_some c.1) ∙ e in cc
]

pub not_fallen : (d x : ℤ) → falls d x ≡ false → in_range (x -ℤ d) ≡ None
not_fallen d x e = elim (in_range-cases (x -ℤ d)) [
  | inl c ↦ let z : true ≡ false = sym (ap is_some c.1) ∙ e in cc
  | inr c ↦ c.1
]
