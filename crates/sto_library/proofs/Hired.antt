-- A worker that is taken from a list.
use Rattle.std.specs.Prelude.{MatchOption, Option, Some, None}
use Rattle.std.specs.List.{All}
use Rattle.std.proofs.Common.{◌≡◌, ◌+◌, List, [], ◌∷◌, ◌++◌, map, ap, ◌∙◌}
use Rattle.std.proofs.lemmas.List.{map-append}
use Rattle.std.proofs.lemmas.List.Elements.{All-pop}
use Rattle.sto_part.specs.Listed.{Listed}

pub hired_last : {X Y : Type 0} (P : X → Type 0) (view : X → Y) (old new : Listed X) (r : Option X) → All P old.items
    → MatchOption r ((old.items ≡ []) × (new ≡ old)) (λ x. (old.items ≡ new.items ++ x ∷ []) × (new.spare ≡ old.spare + 1))
    → MatchOption r (map view old.items ≡ []) (λ x. P x × (map view old.items ≡ map view new.items ++ view x ∷ []))
hired_last P view old new None all h = ap (map view) h.0
hired_last P view old new (Some x) all h = ((All-pop P old.items new.items (Some x) h.0 all).1, ap (map view) h.0 ∙ map-append view new.items (x ∷ []))
