-- A line that assigns nothing, by the first byte after its first word.
use Rattle.std.proofs.Common.{◌≡◌, ◌∷◌, [], ℕ, List, refl, ap, sym, subst, Bool, true, false, not, ◌≤◌, length, get_or, arith}
use Rattle.std.specs.Prelude.{◌==◌, ◌&&◌, if◌then◌else◌, codes, cond}
use Rattle.std.proofs.lemmas.Bool.Decides.{nat_tests}
use Rattle.std.specs.Str.{bytes_eq}
use Rattle.std.specs.List.{slice_split, onto_first}
use Rattle.sto_syntax.specs.Lines.{is_blank, words_of, words_of_pieces}
use Rattle.sto_syntax.specs.Forms.{assignment, statement, form_of}

by_second : (version : ℕ) (word second : List ℕ) (words : List (List ℕ)) (ends : Bool) → bytes_eq second (codes "=") ≡ false
    → form_of version word (if ends then [] else second ∷ words) ≡ statement version word (if ends then [] else second ∷ words)
by_second version word second words true e = refl
by_second version word second words false e = ap (λ (same : Bool). if same then assignment version word words else statement version word (second ∷ words)) e

by_pieces : (version : ℕ) (word : List ℕ) (b : ℕ) (pieces : List (List ℕ)) → (b == 61) ≡ false
    → form_of version word (words_of_pieces (onto_first b pieces)) ≡ statement version word (words_of_pieces (onto_first b pieces))
by_pieces version word b [] e = by_second version word (b ∷ []) [] (b == 35) (ap (λ (same : Bool). same && bytes_eq [] []) e)
by_pieces version word b (piece ∷ pieces) e = by_second version word (b ∷ piece) (words_of_pieces pieces) (b == 35) (ap (λ (same : Bool). same && bytes_eq piece []) e)

differs : (b : ℕ) → (b ≡ 61 → ⊥) → (b == 61) ≡ false
differs b other = grind (arith, nat_tests)

pub not_true : (test : Bool) → not test ≡ true → test ≡ false
not_true true e = absurd (cc)
not_true false e = refl

-- the first byte is neither a blank nor `=`
pub not_assigned : (rest : List ℕ) → 1 ≤ length rest → (get_or rest 0 0 ≡ 61 → ⊥) → is_blank (get_or rest 0 0) ≡ false → (version : ℕ) (word : List ℕ)
    → form_of version word (words_of rest) ≡ statement version word (words_of rest)
not_assigned [] some other solid version word = absurd (omega arith)
not_assigned (b ∷ bytes) some other solid version word =
    let pieces : slice_split is_blank (b ∷ bytes) ≡ onto_first b (slice_split is_blank bytes) = ap (λ (blank : Bool). cond blank ([] ∷ slice_split is_blank bytes) (onto_first b (slice_split is_blank bytes))) solid in
    subst (λ (all : List (List ℕ)). form_of version word (words_of_pieces all) ≡ statement version word (words_of_pieces all)) (sym pieces) (by_pieces version word b (slice_split is_blank bytes) (differs b other))
