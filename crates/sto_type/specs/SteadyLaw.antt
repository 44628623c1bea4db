-- Where it does not matter how much more is known.
use Rattle.std.proofs.Common.{◌≡◌, ℕ, ℤ, Option, Some, None, List, refl, ap, sym, ◌∙◌, inl, inr, ◌⊎◌}
use Rattle.sto_type.specs.Known.{Known, IsWithin}
use Rattle.sto_type.specs.Reading.{Reading, Read, Say, need_of, items_of, when_known}

pub by_known : (o : Option (List ℤ)) → (o ≡ None) ⊎ ((ws : List ℤ) × (o ≡ Some ws))
by_known None = inl refl
by_known (Some ws) = inr (ws, refl)

no_words : {P : Type 0} (ws : List ℤ) → Some ws ≡ None → P
no_words ws e = cc

pub no_part : {P : Type 0} (p : ℕ) → Some p ≡ None → P
no_part p e = cc

pub same_part : (p q : ℕ) → Some p ≡ Some q → p ≡ q
same_part p q e = cc

-- a call that reads parts one after the other
pub reading_steady : (r : Reading) (k more : Known) (p : ℕ) → IsWithin k more → more p ≡ None → need_of r k ≡ Some p → need_of r more ≡ Some p
reading_steady (Say is es) k more p w none e = e
reading_steady (Read q f) k more p w none e = elim (by_known (k q)) [
  | inl unknown ↦
      let first : Some q ≡ Some p = rw unknown at e in
      let here : more q ≡ None = ap more (same_part q p first) ∙ none in
      rw here first
  | inr known ↦
      let on : need_of (f known.0) k ≡ Some p = rw known.1 at e in
      rw (w q known.0 known.1) (reading_steady (f known.0) k more p w none on)
]

pub reading_done : (r : Reading) (k more : Known) → IsWithin k more → need_of r k ≡ None → (need_of r more ≡ None) × (items_of r more ≡ items_of r k)
reading_done (Say is es) k more w e = (refl, refl)
reading_done (Read q f) k more w e = elim (by_known (k q)) [
  | inl unknown ↦ let no : Some q ≡ None = rw unknown at e in no_part q no
  | inr known ↦
      let on : need_of (f known.0) k ≡ None = rw known.1 at e in
      rw (w q known.0 known.1, known.1) (reading_done (f known.0) k more w on)
]
