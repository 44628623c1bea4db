-- The first of a shared list of names.
use Rattle.std.proofs.Common.{◌≡◌, ◌+◌, ◌<◌, ◌≤◌, ℕ, zero, suc, List, [], ◌∷◌, ◌++◌, length, map, ap, sym, ◌∙◌, arith, Some, true, slice_get}
use Rattle.std.specs.Prelude.{take}
use Rattle.std.specs.Option.{option_map}
use Rattle.std.specs.Str.{bytes_eq}
use Rattle.std.proofs.lemmas.List.{take_all, length-take-le, length-map, take-map}
use Rattle.std.proofs.lemmas.Option.{slice_get-map}
use Rattle.std.proofs.lemmas.Slice.Eq.{bytes_eq-Decides}
use Rattle.sto_lang.specs.declared.text.Text.{Text}

abbrev bytes : Text → List ℕ
bytes text = text.items

-- what stands in a list at a place stands there among the first that are more
among_first : {X : Type 0} (xs : List X) (x : X) (n place : ℕ) → place < n → slice_get xs place ≡ Some x → slice_get (take n xs) place ≡ Some x
among_first xs x zero place l e = absurd (omega (arith, l))
among_first [] x (suc n) place l e = e
among_first (y ∷ xs) x (suc n) zero l e = e
among_first (y ∷ xs) x (suc n) (suc place) l e = among_first xs x n place (omega (arith, l)) e

one_more : {X : Type 0} (xs : List X) (x : X) (n : ℕ) → slice_get xs n ≡ Some x → take (suc n) xs ≡ take n xs ++ x ∷ []
one_more [] x zero e = absurd cc
one_more [] x (suc n) e = absurd cc
one_more (y ∷ xs) x zero e =
    let same : y ≡ x = cc in
    ap (λ w. w ∷ []) same
one_more (y ∷ xs) x (suc n) e = ap (λ l. y ∷ l) (one_more xs x n e)

-- all names are the first of so many
pub all_taken : (texts : List Text) (n : ℕ) → n ≡ length texts → take n (map bytes texts) ≡ map bytes texts
all_taken texts n e = take_all n (map bytes texts) (omega (arith, e, length-map texts bytes))

pub taken_count : (texts : List Text) (n : ℕ) → n ≤ length (map bytes texts) → length (take n (map bytes texts)) ≡ n
taken_count texts n l = length-take-le n (map bytes texts) l

pub name_at : (texts : List Text) (text : Text) (n place : ℕ) → place < n → slice_get texts place ≡ Some text
    → slice_get (take n (map bytes texts)) place ≡ Some text.items
name_at texts text n place l e = among_first (map bytes texts) text.items n place l (slice_get-map bytes texts place ∙ ap (option_map bytes) e)

-- the next name of the list after the first
pub next_taken : (texts : List Text) (text : Text) (name : List ℕ) (n : ℕ) → slice_get texts n ≡ Some text → bytes_eq text.items name ≡ true
    → take (n + 1) (map bytes texts) ≡ take n (map bytes texts) ++ name ∷ []
next_taken texts text name n at e =
    let more : n + 1 ≡ suc n = omega arith in
    let same : text.items ≡ name = (bytes_eq-Decides text.items name).0 e in
    ap (λ k. take k (map bytes texts)) more
    ∙ one_more (map bytes texts) text.items n (slice_get-map bytes texts n ∙ ap (option_map bytes) at)
    ∙ ap (λ w. take n (map bytes texts) ++ w ∷ []) same

pub taken_texts : (texts : List Text) (n : ℕ) → map bytes (take n texts) ≡ take n (map bytes texts)
taken_texts texts n = sym (take-map bytes n texts)
