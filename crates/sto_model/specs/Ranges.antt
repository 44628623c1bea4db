-- Which numbers are of 64 bits, as a test.
use Rattle.std.specs.Prelude.{◌≡◌, ℤ, pos, negsuc, int_le, Bool, true, false, ◌&&◌, ◌⊎◌, if◌then◌else◌, Option, Some, None, refl}
use Rattle.std.specs.Int.{w64}
use Rattle.std.specs.Int.RustNames.{FitsSigned}
use Rattle.std.specs.Option.{SomeIff}
use Rattle.std.proofs.Common.{arith, sym, ◌∙◌, ap, inl, inr}
use Rattle.std.proofs.lemmas.Int.{ints}
use Rattle.sto_model.specs.Objects.{least, greatest, in_range}

-- both ends
low_end : (x : ℤ) → FitsSigned w64 x → int_le least x ≡ true
low_end x f = let l = f.sfits in grind (arith, ints)

high_end : (x : ℤ) → FitsSigned w64 x → int_le x greatest ≡ true
high_end x f = let l = f.sfits in grind (arith, ints)

both_ends : (x : ℤ) → int_le least x ≡ true → int_le x greatest ≡ true → FitsSigned w64 x
both_ends (pos n) l h = record { sfits = grind (arith, ints) }
both_ends (negsuc n) l h = record { sfits = grind (arith, ints) }

-- a number of 64 bits is in range, and no other is
pub in_range-fits : (x : ℤ) → FitsSigned w64 x → in_range x ≡ Some x
in_range-fits x f = rw (low_end x f, high_end x f) refl

by_ends : (x : ℤ) (a b : Bool) → int_le least x ≡ a → int_le x greatest ≡ b → in_range x ≡ (if a && b then Some x else None)
by_ends x a b e f = rw (e, f) refl

-- a number of 64 bits, or not
pub in_range-cases : (x : ℤ) → (FitsSigned w64 x × (in_range x ≡ Some x)) ⊎ ((FitsSigned w64 x → ⊥) × (in_range x ≡ None))
in_range-cases x = by (int_le least x) (int_le x greatest) refl refl
  where
    no : true ≡ false → ⊥
    no e = cc

    by : (a b : Bool) → int_le least x ≡ a → int_le x greatest ≡ b → (FitsSigned w64 x × (in_range x ≡ Some x)) ⊎ ((FitsSigned w64 x → ⊥) × (in_range x ≡ None))
    by true true e f = inl (both_ends x e f, by_ends x true true e f)
    by true false e f = inr (λ h. no (sym (high_end x h) ∙ f), by_ends x true false e f)
    by false b e f = inr (λ h. no (sym (low_end x h) ∙ e), by_ends x false b e f)

pub SomeIff-in_range : (o : Option ℤ) (x : ℤ) → SomeIff o (FitsSigned w64 x) x → o ≡ in_range x
SomeIff-in_range (Some y) x h = ap Some h.1 ∙ sym (in_range-fits x h.0)
SomeIff-in_range None x h = elim (in_range-cases x) [ inl c ↦ absurd (h c.0) | inr c ↦ sym c.1 ]
