-- What the tests' file declares.
use Rattle.std.specs.Prelude.{ℕ, List, [], ◌∷◌, pos, codes}
use Rattle.sto_model.specs.declared.shape.Shape.TheVariants.{Single}
use Rattle.sto_lang.specs.Objects.{Declaration}

abbrev pub box_a : List Declaration
box_a = record { name = codes "a"; shape = Single (pos 0); number = 0 } ∷ []

abbrev pub up_and_down : List (List ℕ)
up_and_down = codes "up" ∷ codes "down" ∷ []
