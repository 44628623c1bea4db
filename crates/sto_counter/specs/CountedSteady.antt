-- A counter is steady.
use Rattle.std.proofs.Common.{◌≡◌, ℤ, Some, None, refl, ap, sym, ◌∙◌, inl, inr}
use Rattle.sto_type.specs.Meaning.{IsSteady}
use Rattle.sto_type.specs.SteadyLaw.{by_known, no_part, same_part}
use Rattle.sto_counter.specs.Counted.{counter_meaning}

pub counter_steady : (first : ℤ) → IsSteady (counter_meaning first)
counter_steady first = record {
  steady = λ call k more p w none e. elim (by_known (k 0)) [
    | inl unknown ↦
        let it : Some 0 ≡ Some p = rw unknown at e in
        let here : more 0 ≡ None = ap more (same_part 0 p it) ∙ none in rw here it
    | inr known ↦ let no : None ≡ Some p = rw known.1 at e in no_part p (sym no)
  ];
  done = λ call k more w e. elim (by_known (k 0)) [
    | inl unknown ↦ let no : Some 0 ≡ None = rw unknown at e in no_part 0 no
    | inr known ↦ rw (w 0 known.0 known.1, known.1) (refl, refl)
  ];
}
