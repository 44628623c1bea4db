use Rattle.std.proofs.Common.{◌≡◌, ℕ, ◌+◌, ◌-◌, ◌<◌, ◌≤◌, List, [], ◌∷◌, length, take, drop, refl, sym, ap, ◌∙◌, arith, None, Some, Bool, position}
use Rattle.std.specs.List.{slice_split, position_or_len}
use Rattle.std.proofs.lemmas.List.Splits.{slice_split_first, slice_split_none, length-slice_split}
use Rattle.std.proofs.lemmas.List.Sums.{fails_before_first}
use Rattle.std.proofs.lemmas.Grind.{common_steps}
use Rattle.sto_syntax.specs.Lines.{lines_of_pieces, lines_of, is_line_feed, is_blank, words_of, words_of_pieces}

pub rest_is : {X : Type 0} (at : ℕ) (xs : List X) → take (length xs - at) (drop at xs) ≡ drop at xs
rest_is at xs = grind (arith, common_steps)

position_found : {X : Type 0} (p : X → Bool) (xs : List X) (i : ℕ) → position p xs ≡ Some i → (position_or_len p xs ≡ i) × (i < length xs)
position_found p xs i e = grind arith

position_missed : {X : Type 0} (p : X → Bool) (xs : List X) → position p xs ≡ None → length xs ≤ position_or_len p xs
position_missed p xs e = grind arith

pub piece_at : (p : ℕ → Bool) (xs : List ℕ) (i : ℕ) → position p xs ≡ Some i → slice_split p xs ≡ take i xs ∷ slice_split p (take (length xs - (i + 1)) (drop (i + 1) xs))
piece_at p xs i e =
    let found = position_found p xs i e in
    slice_split_first p xs 0 (omega (arith, found.0, found.1))
    ∙ ap (λ (j : ℕ). take j xs ∷ slice_split p (drop (j + 1) xs)) found.0
    ∙ ap (λ (t : List ℕ). take i xs ∷ slice_split p t) (sym (rest_is (i + 1) xs))

pub piece_whole : (p : ℕ → Bool) (xs : List ℕ) → position p xs ≡ None → slice_split p xs ≡ xs ∷ []
piece_whole p xs e =
    let far = position_missed p xs e in
    slice_split_none p xs (λ k d l. fails_before_first p xs k d (omega (arith, far)))

-- where pieces follow, the first is a line
pub lines_more : (line : List ℕ) (pieces : List (List ℕ)) → 0 < length pieces → lines_of_pieces (line ∷ pieces) ≡ line ∷ lines_of_pieces pieces
lines_more line [] h = absurd (omega arith)
lines_more [] (next ∷ pieces) h = refl
lines_more (b ∷ bytes) (next ∷ pieces) h = refl

pub lines_last : (line : List ℕ) → 0 < length line → lines_of_pieces (line ∷ []) ≡ line ∷ []
lines_last [] h = absurd (omega arith)
lines_last (b ∷ bytes) h = refl

pub pieces_some : (p : ℕ → Bool) (xs : List ℕ) → 0 < length (slice_split p xs)
pieces_some p xs = omega (arith, length-slice_split p xs)

pub line_at : (bytes : List ℕ) (i : ℕ) → position is_line_feed bytes ≡ Some i → lines_of bytes ≡ take i bytes ∷ lines_of (take (length bytes - (i + 1)) (drop (i + 1) bytes))
line_at bytes i e =
    let rest : List ℕ = take (length bytes - (i + 1)) (drop (i + 1) bytes) in
    ap lines_of_pieces (piece_at is_line_feed bytes i e) ∙ lines_more (take i bytes) (slice_split is_line_feed rest) (pieces_some is_line_feed rest)

-- an empty piece at the end is no word
last_alone : (piece : List ℕ) → words_of_pieces (piece ∷ []) ≡ words_of_pieces (piece ∷ [] ∷ [])
last_alone [] = refl
last_alone (b ∷ bytes) = refl

pub words_at : (line : List ℕ) (i : ℕ) → position is_blank line ≡ Some i → words_of line ≡ words_of_pieces (take i line ∷ slice_split is_blank (take (length line - (i + 1)) (drop (i + 1) line)))
words_at line i e = ap words_of_pieces (piece_at is_blank line i e)

pub words_whole : (line : List ℕ) → position is_blank line ≡ None → words_of line ≡ words_of_pieces (line ∷ [] ∷ [])
words_whole line e = ap words_of_pieces (piece_whole is_blank line e) ∙ last_alone line
