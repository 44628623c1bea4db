-- The lines of bytes, one after the other.
use Rattle.std.proofs.Common.{◌≡◌, ℕ, zero, suc, ◌+◌, ◌-◌, ◌<◌, ◌≤◌, List, [], ◌∷◌, ◌++◌, length, take, drop, refl, sym, ap, ◌∙◌, subst, Bool, true, false, cond, ◌==◌, arith, None, Some, position, slice_get, inl, inr}
use Rattle.std.specs.List.{slice_split}
use Rattle.std.proofs.lemmas.Grind.{common_steps}
use Rattle.sto_checker.specs.Lines.{is_line_feed, onto_line, lines_of, HasContent}
use Rattle.sto_checker.proofs.Cuts.{Lacks, split_at, split_none, IsCut, cut_at, cut_none, rest_is}

pub line_of : (xs ys : List ℕ) → Lacks is_line_feed xs → lines_of (xs ++ 10 ∷ ys) ≡ (xs ++ 10 ∷ []) ∷ lines_of ys
line_of [] ys h = refl
line_of (x ∷ xs) ys h =
    ap (λ (b : Bool). cond b ((x ∷ []) ∷ lines_of (xs ++ 10 ∷ ys)) (onto_line x (lines_of (xs ++ 10 ∷ ys)))) h.0
    ∙ ap (onto_line x) (line_of xs ys h.1)

pub line_last : (x : ℕ) (xs : List ℕ) → Lacks is_line_feed (x ∷ xs) → lines_of (x ∷ xs) ≡ (x ∷ xs) ∷ []
line_last x [] h = ap (λ (b : Bool). cond b ((x ∷ []) ∷ []) (onto_line x [])) h.0
line_last x (y ∷ xs) h =
    ap (λ (b : Bool). cond b ((x ∷ []) ∷ lines_of (y ∷ xs)) (onto_line x (lines_of (y ∷ xs)))) h.0
    ∙ ap (onto_line x) (line_last y xs h.1)

front : (xs : List ℕ) (i : ℕ) (b : ℕ) (ys : List ℕ) → i < length xs → xs ≡ take i xs ++ b ∷ ys → take (i + 1) xs ≡ take i xs ++ b ∷ []
front [] i b ys l e = absurd (omega (arith, l))
front (x ∷ xs) zero b ys l e = ap (λ (zs : List ℕ). take 1 zs) e
front (x ∷ xs) (suc i) b ys l e =
    let next : suc i + 1 ≡ suc (i + 1) = omega arith in
    ap (λ (n : ℕ). take n (x ∷ xs)) next ∙ ap (λ (zs : List ℕ). x ∷ zs) (front xs i b ys (omega (arith, l)) (ap (drop 1) e))

-- the first line, and what follows it
pub first_line : (bytes : List ℕ) (i : ℕ) → position (λ b. b == 10) bytes ≡ Some i
    → lines_of bytes ≡ take (i + 1) bytes ∷ lines_of (take (length bytes - (i + 1)) (drop (i + 1) bytes))
first_line bytes i e =
    let cut = cut_at 10 bytes i e in
    ap lines_of cut.is
    ∙ line_of (take i bytes) (drop (i + 1) bytes) cut.lacks
    ∙ ap (λ (l : List ℕ). l ∷ lines_of (drop (i + 1) bytes)) (sym (front bytes i 10 (drop (i + 1) bytes) cut.inside cut.is))
    ∙ ap (λ (r : List ℕ). take (i + 1) bytes ∷ lines_of r) (sym (rest_is (i + 1) bytes))

pub first_content : (bytes : List ℕ) (i : ℕ) → position (λ b. b == 10) bytes ≡ Some i → HasContent (take (i + 1) bytes) (take i bytes)
first_content bytes i e =
    let cut = cut_at 10 bytes i e in
    inl (ap (slice_split is_line_feed) (front bytes i 10 (drop (i + 1) bytes) cut.inside cut.is) ∙ split_at is_line_feed (take i bytes) 10 [] cut.lacks refl)

pub only_line : (bytes : List ℕ) → 0 < length bytes → position (λ b. b == 10) bytes ≡ None → lines_of bytes ≡ bytes ∷ []
only_line [] l e = absurd (omega (arith, l))
only_line (b ∷ bytes) l e = line_last b bytes (cut_none 10 (b ∷ bytes) e)

pub only_content : (bytes : List ℕ) → position (λ b. b == 10) bytes ≡ None → HasContent bytes bytes
only_content bytes e = inr (split_none is_line_feed bytes (cut_none 10 bytes e))

length_onto : (b : ℕ) (lines : List (List ℕ)) → length (onto_line b lines) ≤ suc (length lines)
length_onto b [] = omega arith
length_onto b (line ∷ lines) = omega arith

-- there are no more lines than bytes
pub few_lines : (bytes : List ℕ) → length (lines_of bytes) ≤ length bytes
few_lines [] = omega arith
few_lines (b ∷ bytes) = by (is_line_feed b) (few_lines bytes) (length_onto b (lines_of bytes))
  where
    by : (t : Bool) → length (lines_of bytes) ≤ length bytes → length (onto_line b (lines_of bytes)) ≤ suc (length (lines_of bytes))
        → length (cond t ((b ∷ []) ∷ lines_of bytes) (onto_line b (lines_of bytes))) ≤ length (b ∷ bytes)
    by true h k = omega (arith, h)
    by false h k = omega (arith, h, k)

-- what is left begins with the next line

pub left_none : {X : Type 0} (all : List X) (n : ℕ) → n ≤ length all → [] ≡ drop n all → length all ≡ n
left_none [] n l e = omega (arith, l)
left_none (x ∷ all) zero l e = absurd cc
left_none (x ∷ all) (suc n) l e = let same = left_none all n (omega (arith, l)) e in omega (arith, same)

pub left_next : {X : Type 0} (all : List X) (n : ℕ) (x : X) (xs : List X) → x ∷ xs ≡ drop n all → slice_get all n ≡ Some x
left_next [] zero x xs e = absurd cc
left_next [] (suc n) x xs e = absurd cc
left_next (y ∷ all) zero x xs e = cc
left_next (y ∷ all) (suc n) x xs e = left_next all n x xs e

pub left_more : {X : Type 0} (all : List X) (n : ℕ) (x : X) (xs : List X) → x ∷ xs ≡ drop n all → xs ≡ drop (n + 1) all
left_more [] zero x xs e = absurd cc
left_more [] (suc n) x xs e = absurd cc
left_more (y ∷ all) zero x xs e = cc
left_more (y ∷ all) (suc n) x xs e = let next : suc n + 1 ≡ suc (n + 1) = omega arith in left_more all n x xs e ∙ ap (λ (k : ℕ). drop k (y ∷ all)) (sym next)

pub left_within : {X : Type 0} (all : List X) (n : ℕ) (x : X) (xs : List X) → x ∷ xs ≡ drop n all → n + 1 ≤ length all
left_within [] zero x xs e = absurd cc
left_within [] (suc n) x xs e = absurd cc
left_within (y ∷ all) zero x xs e = omega arith
left_within (y ∷ all) (suc n) x xs e = let k = left_within all n x xs e in omega (arith, k)
