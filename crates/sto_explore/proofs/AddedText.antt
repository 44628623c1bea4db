-- Texts of one item more of a list.
use Rattle.std.proofs.Common.{◌≡◌, ℕ, suc, ◌+◌, ◌-◌, ◌<◌, ◌≤◌, List, [], ◌∷◌, ◌++◌, length, get_or, map, flat_map, take, drop, sym, ap, ◌∙◌, arith, add-zero, append-nil}
use Rattle.std.specs.List.{enumerate_from, join_with_byte}
use Rattle.std.proofs.lemmas.List.{flat_map_more, length-take-le, take_all, take_more}

numbered_then : {X : Type 0} (n : ℕ) (xs ys : List X) → enumerate_from n (xs ++ ys) ≡ enumerate_from n xs ++ enumerate_from (n + length xs) ys
numbered_then n [] ys = ap (λ k. enumerate_from k ys) (sym (add-zero n))
numbered_then n (x ∷ xs) ys =
    let count : (n + 1) + length xs ≡ n + suc (length xs) = omega arith in
    ap (λ l. (n, x) ∷ l) (numbered_then (n + 1) xs ys ∙ ap (λ k. enumerate_from (n + 1) xs ++ enumerate_from k ys) count)

numbered_last : {X : Type 0} (xs : List X) (i : ℕ) (x : X) → i < length xs → x ≡ get_or xs i x
    → enumerate_from 1 (take (i + 1) xs) ≡ enumerate_from 1 (take i xs) ++ (i + 1, x) ∷ []
numbered_last xs i x within is =
    let many = length-take-le i xs (omega arith) in
    let count : 1 + length (take i xs) ≡ i + 1 = omega arith in
    ap (enumerate_from 1) (take_more xs i x within ∙ ap (λ y. take i xs ++ y ∷ []) (sym is))
    ∙ numbered_then 1 (take i xs) (x ∷ [])
    ∙ ap (λ k. enumerate_from 1 (take i xs) ++ (k, x) ∷ []) count

-- the text of the items so far, numbered from 1, and of the next
pub numbered_more : {X : Type 0} (text : ℕ × X → List ℕ) (xs : List X) (i : ℕ) (x : X) (old now new : List ℕ) → i < length xs → x ≡ get_or xs i x
    → now ≡ old ++ flat_map text (enumerate_from 1 (take i xs)) → new ≡ now ++ text (i + 1, x) → new ≡ old ++ flat_map text (enumerate_from 1 (take (i + 1) xs))
numbered_more text xs i x old now new within is so_far more =
    more
    ∙ ap (λ b. b ++ text (i + 1, x)) so_far
    ∙ flat_map_more text old (enumerate_from 1 (take i xs)) (i + 1, x)
    ∙ ap (λ l. old ++ flat_map text l) (sym (numbered_last xs i x within is))

-- the text of the items so far and of the next
pub added_more : {X : Type 0} (text : X → List ℕ) (xs : List X) (i : ℕ) (x : X) (old now new : List ℕ) → i < length xs → x ≡ get_or xs i x
    → now ≡ old ++ flat_map text (take i xs) → new ≡ now ++ text x → new ≡ old ++ flat_map text (take (i + 1) xs)
added_more text xs i x old now new within is so_far more =
    more
    ∙ ap (λ b. b ++ text x) so_far
    ∙ flat_map_more text old (take i xs) x
    ∙ ap (λ l. old ++ flat_map text l) (sym (take_more xs i x within ∙ ap (λ y. take i xs ++ y ∷ []) (sym is)))

after_first : {X : Type 0} (text : X → List ℕ) (x : X) (xs : List X) → text x ++ flat_map (λ y. 44 ∷ text y) xs ≡ join_with_byte 44 (map text (x ∷ xs))
after_first text x [] = append-nil (text x)
after_first text x (y ∷ ys) = ap (λ l. text x ++ 44 ∷ l) (after_first text y ys)

-- the text of the first item, and of the others after a comma each
pub joined : {X : Type 0} (text : X → List ℕ) (xs : List X) (x : X) (i : ℕ) → 1 ≤ length xs → x ≡ get_or xs 0 x → length (take (length xs - 1) (drop 1 xs)) ≤ i
    → text x ++ flat_map (λ y. 44 ∷ text y) (take i (take (length xs - 1) (drop 1 xs))) ≡ join_with_byte 44 (map text xs)
joined text [] x i within is over = absurd (omega (arith, within))
joined text (y ∷ ys) x i within is over =
    ap (λ l. text x ++ flat_map (λ z. 44 ∷ text z) l) (take_all i (take (length (y ∷ ys) - 1) ys) over ∙ take_all (length (y ∷ ys) - 1) ys (omega arith))
    ∙ ap (λ z. text z ++ flat_map (λ z. 44 ∷ text z) ys) is
    ∙ after_first text y ys
