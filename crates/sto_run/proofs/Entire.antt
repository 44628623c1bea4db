-- All homes of a type.
use Rattle.std.specs.Prelude.{map}
use Rattle.std.proofs.Common.{◌≡◌, ◌≤◌, ◌+◌, ℕ, suc, List, [], ◌∷◌, ◌++◌, take, slice_get, Some, refl, ap, sym, ◌∙◌, arith}
use Rattle.std.proofs.lemmas.List.{map-append}
use Rattle.sto_type.specs.declared.answer.Home.{Home}
use Rattle.sto_type.proofs.Answering.{take_get}

abbrev pair : Home → ℕ × ℕ
pair h = (h.object, h.local)

-- one home more
pub home_added :
    (homes : List (ℕ × ℕ)) (before after : List Home) (home : Home) (part : ℕ) → map pair before ≡ take part homes → after ≡ before ++ home ∷ [] → slice_get homes part ≡ Some (home.object, home.local)
    → map pair after ≡ take (part + 1) homes
home_added homes before after home part so_far added there =
    let next : suc part ≡ part + 1 = omega arith in
    ap (map pair) added
    ∙ map-append pair before (home ∷ [])
    ∙ ap (λ l. l ++ pair home ∷ []) so_far
    ∙ sym (take_get homes part (pair home) there)
    ∙ ap (λ n. take n homes) next
