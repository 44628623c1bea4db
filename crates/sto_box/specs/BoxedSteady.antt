-- A box is steady.
use Rattle.std.proofs.Common.{◌≡◌, ℕ, ℤ, Bool, true, false, Some, None, Option, List, [], ◌∷◌, refl, ap, sym, ◌∙◌, inl, inr}
use Rattle.sto_type.specs.Known.{Known, IsWithin}
use Rattle.sto_type.specs.Meaning.{IsSteady}
use Rattle.sto_type.specs.SteadyLaw.{by_known, no_part, same_part}
use Rattle.sto_box.specs.Boxed.{box_meaning, asked, is_get}

asked_steady : (b : Bool) (k more : Known) (p : ℕ) → IsWithin k more → more p ≡ None → asked b (k 0) ≡ Some p → asked b (more 0) ≡ Some p
asked_steady b k more p w none e = elim (by_known (k 0)) [
  | inl unknown ↦ of_none b (rw unknown at e)
  | inr known ↦ of_some known.0 b (rw known.1 at e)
]
  where
    of_none : (b : Bool) → asked b None ≡ Some p → asked b (more 0) ≡ Some p
    of_none true e = let here : more 0 ≡ None = ap more (same_part 0 p e) ∙ none in rw here e
    of_none false e = cc

    of_some : (ws : List ℤ) (b : Bool) → asked b (Some ws) ≡ Some p → asked b (more 0) ≡ Some p
    of_some ws true e = cc
    of_some ws false e = cc

asked_done : (b : Bool) (k more : Known) → IsWithin k more → asked b (k 0) ≡ None → asked b (more 0) ≡ None
asked_done true k more w e = elim (by_known (k 0)) [
  | inl unknown ↦ let no : Some 0 ≡ None = rw unknown at e in no_part 0 no
  | inr known ↦ rw (w 0 known.0 known.1) refl
]
asked_done false k more w e = refl

pub box_steady : (n : ℕ) (C : List ℤ → Type 0) (ws : List ℤ) → IsSteady (box_meaning n C ws)
box_steady n C ws = record {
  steady = λ call k more p. asked_steady (is_get call.operation) k more p;
  done = λ call k more w e. (asked_done (is_get call.operation) k more w e, refl);
}
