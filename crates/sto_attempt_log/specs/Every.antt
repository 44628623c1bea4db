-- What is so of each of a list.
use Rattle.std.specs.Prelude.{List, [], ◌∷◌}

-- P is so of each of the list
abbrev pub AllOf : {A : Type 0} → (A → Type 0) → List A → Type 0
AllOf P [] = Unit {0}
AllOf P (x ∷ xs) = P x × AllOf P xs
