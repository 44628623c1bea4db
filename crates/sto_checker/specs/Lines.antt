-- The lines of a report. Each has the line feed that ends it; what stands behind the last line feed is a line without one.
use Rattle.std.specs.Prelude.{◌≡◌, ◌⊎◌, ℕ, List, [], ◌∷◌, ◌==◌, if◌then◌else◌, Bool, codes}
use Rattle.std.specs.List.{slice_split}
use Rattle.std.specs.Str.{bytes_eq}

-- what ends a line
abbrev pub is_line_feed : ℕ → Bool
is_line_feed b = b == 10

-- lines with one more byte at their front
abbrev pub onto_line : ℕ → List (List ℕ) → List (List ℕ)
onto_line b [] = (b ∷ []) ∷ []
onto_line b (line ∷ lines) = (b ∷ line) ∷ lines

abbrev pub lines_of : List ℕ → List (List ℕ)
lines_of [] = []
lines_of (b ∷ bytes) = if is_line_feed b then (b ∷ []) ∷ lines_of bytes else onto_line b (lines_of bytes)

-- the line consists of this and a line feed, or of this alone
abbrev pub HasContent : List ℕ → List ℕ → Type 0
HasContent line content = (slice_split is_line_feed line ≡ content ∷ [] ∷ []) ⊎ (slice_split is_line_feed line ≡ content ∷ [])

-- the line `state`
abbrev pub is_state_line : List ℕ → Bool
is_state_line line = bytes_eq line (codes "state\n")

-- the lines before the first line `state`; all where there is none
abbrev pub until_state : List (List ℕ) → List (List ℕ)
until_state [] = []
until_state (line ∷ lines) = if is_state_line line then [] else line ∷ until_state lines

-- the lines behind it; none where there is none
abbrev pub beyond_state : List (List ℕ) → List (List ℕ)
beyond_state [] = []
beyond_state (line ∷ lines) = if is_state_line line then lines else beyond_state lines
