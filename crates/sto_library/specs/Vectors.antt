-- The rows of a vector by its values, the last one first.
use Rattle.std.specs.Prelude.{ℤ, pos, List, [], ◌∷◌, ◌++◌, length}
use Rattle.sto_model.specs.Rows.{Row}

-- each value stands at its place
abbrev pub placed : List ℤ → List Row
placed [] = []
placed (x ∷ xs) = placed xs ++ (pos (length xs), x) ∷ []
