-- Where all bytes may stand in a script, those of each line may.
use Rattle.std.proofs.Common.{◌≡◌, ℕ, List, [], ◌∷◌, refl, ap, sym, ◌∙◌, Bool, true, false, ◌&&◌, cond}
use Rattle.std.specs.List.{list_all, slice_split, onto_first}
use Rattle.sto_syntax.specs.Lines.{lines_of, lines_of_pieces, is_line_feed}
use Rattle.sto_lang.specs.Files.{is_allowed}

both : (a b : Bool) → (a && b) ≡ true → (a ≡ true) × (b ≡ true)
both true b e = (refl, e)
both false b e = absurd (cc)

onto : (b : ℕ) (pieces : List (List ℕ)) → is_allowed b ≡ true → list_all (list_all is_allowed) pieces ≡ true → list_all (list_all is_allowed) (onto_first b pieces) ≡ true
onto b [] allowed e = (λ i. (allowed i && true) && true)
onto b (piece ∷ pieces) allowed e =
    let parts = both (list_all is_allowed piece) (list_all (list_all is_allowed) pieces) e in
    (λ i. (allowed i && parts.0 i) && parts.1 i)

at_byte : (cut : Bool) (b : ℕ) (pieces : List (List ℕ)) → is_allowed b ≡ true → list_all (list_all is_allowed) pieces ≡ true → list_all (list_all is_allowed) (cond cut ([] ∷ pieces) (onto_first b pieces)) ≡ true
at_byte true b pieces allowed e = e
at_byte false b pieces allowed e = onto b pieces allowed e

of_pieces : (bytes : List ℕ) → list_all is_allowed bytes ≡ true → list_all (list_all is_allowed) (slice_split is_line_feed bytes) ≡ true
of_pieces [] e = refl
of_pieces (b ∷ bytes) e =
    let parts = both (is_allowed b) (list_all is_allowed bytes) e in
    at_byte (is_line_feed b) b (slice_split is_line_feed bytes) parts.0 (of_pieces bytes parts.1)

of_lines : (pieces : List (List ℕ)) → list_all (list_all is_allowed) pieces ≡ true → list_all (list_all is_allowed) (lines_of_pieces pieces) ≡ true
of_lines [] e = refl
of_lines ([] ∷ []) e = refl
of_lines ((b ∷ bytes) ∷ []) e = e
of_lines ([] ∷ next ∷ pieces) e = of_lines (next ∷ pieces) e
of_lines ((b ∷ bytes) ∷ next ∷ pieces) e =
    let parts = both (list_all is_allowed (b ∷ bytes)) (list_all (list_all is_allowed) (next ∷ pieces)) e in
    (λ i. parts.0 i && of_lines (next ∷ pieces) parts.1 i)

pub lines_allowed : (bytes : List ℕ) → list_all is_allowed bytes ≡ true → list_all (list_all is_allowed) (lines_of bytes) ≡ true
lines_allowed bytes e = of_lines (slice_split is_line_feed bytes) (of_pieces bytes e)

-- so is the first of them, and so are those after it
pub first_allowed : (all : List (List ℕ)) (line : List ℕ) (more : List (List ℕ)) → all ≡ line ∷ more → list_all (list_all is_allowed) all ≡ true → (list_all is_allowed line ≡ true) × (list_all (list_all is_allowed) more ≡ true)
first_allowed all line more e h = both (list_all is_allowed line) (list_all (list_all is_allowed) more) (ap (list_all (list_all is_allowed)) (sym e) ∙ h)
