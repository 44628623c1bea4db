-- Words that are divided at brackets, and questions that are read on.
use Rattle.std.specs.List.{slice_split, position_or_len, prefix_len}
use Rattle.std.proofs.Common.{◌≡◌, ◌<◌, ◌+◌, ◌-◌, ℕ, List, [], ◌∷◌, length, take, drop, get_or, refl, sym, ap, ◌∙◌, Bool, not, cond, nat_lt, Option, None, Some, Result, Ok, Err, position, map, slice_get, arith, inl, inr}
use Rattle.std.specs.Option.{option_and_then, option_map}
use Rattle.std.specs.Str.{bytes_eq}
use Rattle.std.proofs.lemmas.Bool.{cases_eq}
use Rattle.std.proofs.lemmas.Grind.{common_steps}
use Rattle.std.proofs.lemmas.List.{length-map}
use Rattle.std.proofs.lemmas.Option.{slice_get-map, slice_get-get_or}
use Rattle.sto_lang.specs.declared.file.Decl.{Decl}
use Rattle.sto_lang.specs.Objects.{Declaration}
use Rattle.sto_lang.specs.Views.{declaration}
use Rattle.sto_syntax.proofs.Pieces.{piece_at, piece_whole, pieces_some}
use Rattle.sto_question.specs.declared.fault.QuestionFault.{QuestionFault}
use Rattle.sto_question.specs.declared.fault.QuestionFault.TheVariants.{BadWords}
use Rattle.sto_question.specs.declared.question.Amount.{Amount}
use Rattle.sto_question.specs.Questions.{named, is_closing, bracketed_amount, object_amount, amount_of, Draft, with_amount, with_link, question_from, ◌>>=◌, Question}

-- what is divided into one empty piece is empty
only_empty : (p : ℕ → Bool) (ys : List ℕ) → slice_split p ys ≡ [] ∷ [] → ys ≡ []
only_empty p ys e = by (position p ys) refl
  where
    by : (o : Option ℕ) → position p ys ≡ o → ys ≡ []
    by None f = let whole = sym (piece_whole p ys f) ∙ e in cc
    by (Some j) f =
        let more = pieces_some p (take (length ys - (j + 1)) (drop (j + 1) ys)) in
        let many = ap length (sym (piece_at p ys j f) ∙ e) in
        absurd (omega (arith, more, many))

-- the place where one is found is in the list
pub inside : {X : Type 0} (p : X → Bool) (xs : List X) (i : ℕ) → position p xs ≡ Some i → (position_or_len p xs ≡ i) × (i < length xs)
inside p xs i e = grind arith

none_left : (xs : List ℕ) (i : ℕ) → i + 1 ≡ length xs → take (length xs - (i + 1)) (drop (i + 1) xs) ≡ []
none_left xs i e = ap (λ (n : ℕ). take n (drop (i + 1) xs)) (let none : length xs - (i + 1) ≡ 0 = omega (arith, e) in none)

some_left : (xs : List ℕ) (i : ℕ) → i + 1 < length xs → 0 < length (take (length xs - (i + 1)) (drop (i + 1) xs))
some_left xs i l = grind (arith, common_steps)

-- what stands behind the name, by its pieces
no_key : (ds : List Declaration) (name key : List ℕ) (pieces : List (List ℕ)) → (pieces ≡ [] ∷ [] → ⊥) → bracketed_amount ds name (key ∷ pieces) ≡ Err BadWords
no_key ds name key [] h = refl
no_key ds name key ([] ∷ []) h = absurd (h refl)
no_key ds name key ((b ∷ bytes) ∷ []) h = refl
no_key ds name key ([] ∷ piece ∷ pieces) h = refl
no_key ds name key ((b ∷ bytes) ∷ piece ∷ pieces) h = refl

module _ (ds : List Declaration) (name rest : List ℕ) where
  -- the closing bracket is the last byte
  pub closed : (end : ℕ) → position is_closing rest ≡ Some end → end + 1 ≡ length rest → slice_split is_closing rest ≡ take end rest ∷ [] ∷ []
  closed end at last = piece_at is_closing rest end at ∙ ap (λ (ys : List ℕ). take end rest ∷ slice_split is_closing ys) (none_left rest end last)

  pub not_closed : position is_closing rest ≡ None → bracketed_amount ds name (slice_split is_closing rest) ≡ Err BadWords
  not_closed none = ap (bracketed_amount ds name) (piece_whole is_closing rest none)

  pub goes_on : (end : ℕ) → position is_closing rest ≡ Some end → (end + 1 ≡ length rest → ⊥) → bracketed_amount ds name (slice_split is_closing rest) ≡ Err BadWords
  goes_on end at more =
      let here = (inside is_closing rest end at).1 in
      let left : List ℕ = take (length rest - (end + 1)) (drop (end + 1) rest) in
      let some : 0 < length left = some_left rest end (by_cases here) in
      ap (bracketed_amount ds name) (piece_at is_closing rest end at)
      ∙ no_key ds name (take end rest) (slice_split is_closing left) (λ e. let none = ap length (only_empty is_closing left e) in omega (arith, some, none))
    where
      by_cases : end < length rest → end + 1 < length rest
      by_cases l = elim (cases_eq (end + 1) (length rest)) [
        | inl same ↦ absurd (more same)
        | inr apart ↦ omega (arith, l, apart)
      ]

before_name : (name : List ℕ) (ds : List Decl) → prefix_len (λ (d : Declaration). not (bytes_eq d.name name)) (map declaration ds) ≡ prefix_len (λ (d : Decl). not (bytes_eq d.name.items name)) ds
before_name name [] = refl
before_name name (d ∷ ds) = ap (λ (k : ℕ). cond (not (bytes_eq d.name.items name)) (1 + k) 0) (before_name name ds)

abbrev at_or_none : ℕ → ℕ → Option ℕ
at_or_none i n = cond (nat_lt i n) (Some i) None

place_of_name : (name : List ℕ) (ds : List Decl) → position (λ (d : Declaration). bytes_eq d.name name) (map declaration ds) ≡ position (λ (d : Decl). bytes_eq d.name.items name) ds
place_of_name name ds = λ i. at_or_none (before_name name ds i) (length-map ds declaration i)

-- the object with a name, by its place
pub named_at : (name : List ℕ) (ds : List Decl) (place : Option ℕ) → place ≡ position (λ (d : Decl). bytes_eq d.name.items name) ds
    → option_and_then (slice_get (map declaration ds)) place ≡ named (map declaration ds) name
named_at name ds place at = ap (option_and_then (slice_get (map declaration ds))) (at ∙ sym (place_of_name name ds))

pub declared_at : (ds : List Decl) (i : ℕ) (d : Decl) → i < length ds → d ≡ get_or ds i d → slice_get (map declaration ds) i ≡ Some (declaration d)
declared_at ds i d l is = slice_get-map declaration ds i ∙ ap (option_map declaration) (slice_get-get_or ds i d l ∙ ap (λ (x : Decl). Some x) (sym is))

-- three pieces or more are no amount
pub three_pieces : (ds : List Declaration) (name piece : List ℕ) (more : List (List ℕ)) → 0 < length more → object_amount ds (name ∷ piece ∷ more) ≡ Err BadWords
three_pieces ds name piece [] h = absurd (omega (arith, h))
three_pieces ds name piece (other ∷ more) h = refl

-- one amount and the word behind it are read
pub read_on : (ds : List Declaration) (d e : Draft) (word link : List ℕ) (words : List (List ℕ)) (amount : Amount) → amount_of ds word ≡ Ok amount
    → with_link (with_amount d amount) link ≡ Ok e → question_from ds d (word ∷ link ∷ words) ≡ question_from ds e words
read_on ds d e word link words amount is then =
    ap (λ (r : Result Amount QuestionFault). r >>= (λ a. with_link (with_amount d a) link >>= (λ f. question_from ds f words))) is
    ∙ ap (λ (r : Result Draft QuestionFault). r >>= (λ f. question_from ds f words)) then
