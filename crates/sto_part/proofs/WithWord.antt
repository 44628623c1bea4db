-- One word set, in parts that are lists.
use Rattle.std.proofs.Common.{◌≡◌, ℕ, zero, suc, ℤ, List, [], ◌∷◌, map, slice_get, slice_set, Some, ap, ◌∙◌, sym}
use Rattle.std.proofs.lemmas.List.{map-set}
use Rattle.sto_part.specs.Listed.{Listed, with_item}
use Rattle.sto_part.specs.Parts.{part_of, with_word}

-- the words of parts that are lists
abbrev pub words_of : List (Listed ℤ) → List (List ℤ)
words_of ps = map (λ p. p.items) ps

-- the words of a part, of parts that are lists
pub part_of_at : (ps : List (Listed ℤ)) (p : ℕ) (one : Listed ℤ) → slice_get ps p ≡ Some one → part_of (words_of ps) p ≡ one.items
part_of_at [] p one e = cc
part_of_at (x ∷ xs) zero one e = let same : x ≡ one = cc in ap (λ l. l.items) same
part_of_at (x ∷ xs) (suc p) one e = part_of_at xs p one e

-- one item of one list set is one word set
pub words_of-set : (ps : List (Listed ℤ)) (p w : ℕ) (x : ℤ) (one : Listed ℤ) → slice_get ps p ≡ Some one → words_of (slice_set ps p (with_item one w x)) ≡ with_word (words_of ps) p w x
words_of-set ps p w x one e =
    map-set (λ (l : Listed ℤ). l.items) ps p (with_item one w x) ∙ ap (λ l. slice_set (words_of ps) p (slice_set l w x)) (sym (part_of_at ps p one e))
