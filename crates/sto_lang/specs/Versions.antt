-- The version of a script, by its first line with words.
use Rattle.std.specs.Prelude.{ℕ, List, [], ◌∷◌, ◌&&◌, Bool, false, if◌then◌else◌, codes}
use Rattle.std.specs.Str.{bytes_eq}
use Rattle.sto_syntax.specs.Lines.{lines_of, words_of}
use Rattle.sto_syntax.specs.Forms.{is_empty}

-- the words of the first line that has any
abbrev pub first_words : List (List ℕ) → List (List ℕ)
first_words [] = []
first_words (line ∷ lines) = if is_empty (words_of line) then first_words lines else words_of line

-- the words `sto` and `2`, and no more
abbrev pub are_second : List (List ℕ) → Bool
are_second (word ∷ number ∷ []) = bytes_eq word (codes "sto") && bytes_eq number (codes "2")
are_second words = false

-- a script whose first line with words is `sto 2` is of version 2, and any other is of version 1
abbrev pub version_of : List ℕ → ℕ
version_of bytes = if are_second (first_words (lines_of bytes)) then 2 else 1
