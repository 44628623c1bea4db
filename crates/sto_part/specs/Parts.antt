-- Contents: parts, each a list of words.
use Rattle.std.specs.Prelude.{ℕ, ℤ, pos, List, [], map, replicate, slice_index_or, slice_set}

-- parts of these widths with all words 0
abbrev pub zeros : List ℕ → List (List ℤ)
zeros ws = map (λ w. replicate w (pos 0)) ws

-- the words of a part; none past the last part
abbrev pub part_of : List (List ℤ) → ℕ → List ℤ
part_of parts p = slice_index_or parts p []

-- one word set, and all others as they were
abbrev pub with_word : List (List ℤ) → ℕ → ℕ → ℤ → List (List ℤ)
with_word parts p w x = slice_set parts p (slice_set (part_of parts p) w x)
