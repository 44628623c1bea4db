-- What the rows of a store say.
use Rattle.std.specs.Prelude.{◌≡◌, ◌≤◌, ℕ, ℤ, pos, ◌+ℤ◌, List, [], ◌∷◌, length, take, Option, Some, None, option_map, slice_get}
use Rattle.sto_model.specs.Objects.{in_range}
use Rattle.sto_model.specs.Rows.{Row}
use Rattle.sto_model.specs.Run.{State}

-- the value of an object that holds one, in its first row
abbrev pub first_value : Option (List Row) → Option ℤ
first_value (Some rows) = option_map (λ (r : Row). r.1) (slice_get rows 0)
first_value None = None

-- the value of the object of this number
abbrev pub value_of : State → ℕ → Option ℤ
value_of state number = first_value (slice_get state number)

-- what the values of rows are together
abbrev pub total : List Row → ℤ
total [] = pos 0
total (row ∷ rows) = row.1 +ℤ total rows

-- what the values of rows come to together, where each counts so much
abbrev pub counted : (ℤ → ℤ) → List Row → ℤ
counted f [] = pos 0
counted f (row ∷ rows) = f row.1 +ℤ counted f rows

-- what the values of the object of this number are together
abbrev pub total_of : State → ℕ → Option ℤ
total_of state number = option_map total (slice_get state number)

-- the sum of these values, from the first on, does not stay within a word: that of so many of them is not in its range
pub record Overflows (rows : List Row) : Type 0 where
  pub many : ℕ
  pub within : many ≤ length rows
  pub beyond : in_range (total (take many rows)) ≡ None

-- why the values of the object of this number have no sum in a word: there is no such object, or their sum leaves the range of a word
abbrev pub HasNoTotal : Option (List Row) → Type 0
HasNoTotal None = Unit {0}
HasNoTotal (Some rows) = Overflows rows
