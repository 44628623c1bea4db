-- Bytes that are cut at the first byte of a kind.
use Rattle.std.proofs.Common.{◌≡◌, ℕ, zero, suc, ◌+◌, ◌-◌, ◌<◌, ◌≤◌, List, [], ◌∷◌, ◌++◌, length, take, drop, get_or, refl, sym, ap, ◌∙◌, subst, Bool, true, false, cond, not, ◌==◌, arith, None, Some, position}
use Rattle.std.specs.List.{slice_split, position_or_len, before_first, after_first}
use Rattle.std.proofs.lemmas.Bool.Decides.{nat_tests}
use Rattle.std.proofs.lemmas.List.Sums.{split_at_first, passes_at_first}
use Rattle.std.proofs.lemmas.List.Splits.{slice_split-cons_yes, slice_split-cons_no}
use Rattle.std.specs.List.{onto_first}
use Rattle.std.proofs.lemmas.Grind.{common_steps}

-- no byte passes
abbrev pub Lacks : (ℕ → Bool) → List ℕ → Type 0
Lacks p [] = Unit {0}
Lacks p (x ∷ xs) = (p x ≡ false) × Lacks p xs

pub split_at : (p : ℕ → Bool) (xs : List ℕ) (y : ℕ) (ys : List ℕ) → Lacks p xs → p y ≡ true → slice_split p (xs ++ y ∷ ys) ≡ xs ∷ slice_split p ys
split_at p [] y ys f e = slice_split-cons_yes p y ys e
split_at p (x ∷ xs) y ys f e = slice_split-cons_no p x (xs ++ y ∷ ys) f.0 ∙ ap (onto_first x) (split_at p xs y ys f.1 e)

pub split_none : (p : ℕ → Bool) (xs : List ℕ) → Lacks p xs → slice_split p xs ≡ xs ∷ []
split_none p [] f = refl
split_none p (x ∷ xs) f = slice_split-cons_no p x xs f.0 ∙ ap (onto_first x) (split_none p xs f.1)

one_more : (n : ℕ) → 1 + n ≡ suc n
one_more n = omega arith

lacks_first : (p : ℕ → Bool) (xs : List ℕ) → Lacks p (take (position_or_len p xs) xs)
lacks_first p [] = tt
lacks_first p (x ∷ xs) = by (p x) refl (lacks_first p xs)
  where
    by : (b : Bool) → p x ≡ b → Lacks p (take (position_or_len p xs) xs) → Lacks p (take (cond (not b) (1 + position_or_len p xs) 0) (x ∷ xs))
    by true e h = tt
    by false e h = subst (λ (n : ℕ). Lacks p (take n (x ∷ xs))) (sym (one_more (position_or_len p xs))) (e, h)

lacks_all : (p : ℕ → Bool) (xs : List ℕ) → length xs ≤ position_or_len p xs → Lacks p xs
lacks_all p [] far = tt
lacks_all p (x ∷ xs) far = by (p x) refl (lacks_all p xs) far
  where
    by : (b : Bool) → p x ≡ b → (length xs ≤ position_or_len p xs → Lacks p xs) → length (x ∷ xs) ≤ cond (not b) (1 + position_or_len p xs) 0 → Lacks p (x ∷ xs)
    by true e h l = absurd (omega (arith, l))
    by false e h l = (e, h (omega (arith, l)))

position_found : (p : ℕ → Bool) (xs : List ℕ) (i : ℕ) → position p xs ≡ Some i → (position_or_len p xs ≡ i) × (i < length xs)
position_found p xs i e = grind arith

position_missed : (p : ℕ → Bool) (xs : List ℕ) → position p xs ≡ None → length xs ≤ position_or_len p xs
position_missed p xs e = grind arith

pub rest_is : (at : ℕ) (xs : List ℕ) → take (length xs - at) (drop at xs) ≡ drop at xs
rest_is at xs = grind (arith, common_steps)

same_byte : (b c : ℕ) → (b == c) ≡ true → b ≡ c
same_byte b c e = grind (arith, nat_tests)

-- the bytes before the first of a kind, that byte, and what follows it
pub record IsCut (at : ℕ) (xs : List ℕ) (i : ℕ) : Type 0 where
  pub lacks : Lacks (λ b. b == at) (take i xs)
  pub is : xs ≡ take i xs ++ at ∷ drop (i + 1) xs
  pub inside : i < length xs

pub cut_at : (at : ℕ) (xs : List ℕ) (i : ℕ) → position (λ b. b == at) xs ≡ Some i → IsCut at xs i
cut_at at xs i e =
    let p : ℕ → Bool = λ b. b == at in
    let found = position_found p xs i e in
    let inside : position_or_len p xs < length xs = omega (arith, found.0, found.1) in
    let same : get_or xs (position_or_len p xs) 0 ≡ at = same_byte (get_or xs (position_or_len p xs) 0) at (passes_at_first p xs 0 inside) in
    record {
      lacks = subst (λ (n : ℕ). Lacks p (take n xs)) found.0 (lacks_first p xs);
      is =
          split_at_first p xs 0 inside
          ∙ ap (λ (b : ℕ). before_first p xs ++ (b ∷ after_first p xs)) same
          ∙ ap (λ (n : ℕ). take n xs ++ (at ∷ drop (n + 1) xs)) found.0;
      inside = found.1;
    }

pub cut_none : (at : ℕ) (xs : List ℕ) → position (λ b. b == at) xs ≡ None → Lacks (λ b. b == at) xs
cut_none at xs e = let p : ℕ → Bool = λ b. b == at in lacks_all p xs (position_missed p xs e)

yes : (at : ℕ) → (at == at) ≡ true
yes at = grind (arith, nat_tests)

-- the pieces of bytes that are cut
pub piece_at : (at : ℕ) (xs : List ℕ) (i : ℕ) → position (λ b. b == at) xs ≡ Some i
    → slice_split (λ b. b == at) xs ≡ take i xs ∷ slice_split (λ b. b == at) (take (length xs - (i + 1)) (drop (i + 1) xs))
piece_at at xs i e =
    let p : ℕ → Bool = λ b. b == at in
    let cut = cut_at at xs i e in
    ap (slice_split p) cut.is
    ∙ split_at p (take i xs) at (drop (i + 1) xs) cut.lacks (yes at)
    ∙ ap (λ (t : List ℕ). take i xs ∷ slice_split p t) (sym (rest_is (i + 1) xs))

pub piece_whole : (at : ℕ) (xs : List ℕ) → position (λ b. b == at) xs ≡ None → slice_split (λ b. b == at) xs ≡ xs ∷ []
piece_whole at xs e = let p : ℕ → Bool = λ b. b == at in split_none p xs (cut_none at xs e)
