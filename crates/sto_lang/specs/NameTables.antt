-- Names of which no two are the same.
use Rattle.std.specs.Prelude.{◌≡◌, ℕ, List, Some, slice_get, position}
use Rattle.std.specs.Str.{bytes_eq}

-- each is the first of its bytes
abbrev pub AreApart : List (List ℕ) → Type 0
AreApart names = (name : List ℕ) → (place : ℕ) → slice_get names place ≡ Some name → position (bytes_eq name) names ≡ Some place
