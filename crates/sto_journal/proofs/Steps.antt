-- One more item of a list that a loop goes over.
use Rattle.std.proofs.Common.{◌≡◌, ℕ, zero, suc, ◌+◌, ◌<◌, ◌≤◌, List, [], ◌∷◌, ◌++◌, length, get_or, map, take, refl, sym, ap, ◌∙◌, subst, arith, append_assoc, append-nil}
use Rattle.std.specs.List.{AllWithin, flat_map}
use Rattle.std.proofs.lemmas.List.{map-append, take_more}
use Rattle.std.proofs.lemmas.List.Elements.{AllWithin-more}

same_within : {X : Type 0} (xs : List X) (i : ℕ) (x d : X) → i < length xs → get_or xs i x ≡ get_or xs i d
same_within [] i x d l = absurd (omega (arith, l))
same_within (y ∷ xs) zero x d l = refl
same_within (y ∷ xs) (suc i) x d l = same_within xs i x d (omega (arith, l))

-- what holds of the items so far and of the next
pub held_more : {X : Type 0} (P : X → Type 0) (xs : List X) (i : ℕ) (x : X) → i < length xs → x ≡ get_or xs i x → AllWithin P xs 0 i → P x → AllWithin P xs 0 (i + 1)
held_more P xs i x l e h p = AllWithin-more P xs 0 i h (λ d. subst P (e ∙ same_within xs i x d l) p)

-- what is made of the items so far and of the next
pub mapped_more : {X Y : Type 0} (f : X → Y) (xs : List X) (i : ℕ) (x : X) → i < length xs → x ≡ get_or xs i x → map f (take (i + 1) xs) ≡ map f (take i xs) ++ f x ∷ []
mapped_more f xs i x l e =
    ap (map f) (take_more xs i x l)
    ∙ map-append f (take i xs) (get_or xs i x ∷ [])
    ∙ ap (λ z. map f (take i xs) ++ f z ∷ []) (sym e)

flat_last : {X : Type 0} (f : X → List ℕ) (xs : List X) (x : X) → flat_map f (xs ++ x ∷ []) ≡ flat_map f xs ++ f x
flat_last f [] x = append-nil (f x)
flat_last f (y ∷ xs) x = ap (λ (l : List ℕ). f y ++ l) (flat_last f xs x) ∙ sym (append_assoc (f y) (flat_map f xs) (f x))

-- the text of the items so far and of the next
pub told_more : {X Y : Type 0} (text : Y → List ℕ) (f : X → Y) (xs : List X) (i : ℕ) (x : X) (old now new : List ℕ) → i < length xs → x ≡ get_or xs i x
    → now ≡ old ++ flat_map text (map f (take i xs)) → new ≡ now ++ text (f x) → new ≡ old ++ flat_map text (map f (take (i + 1) xs))
told_more text f xs i x old now new l e so_far more =
    more
    ∙ ap (λ (b : List ℕ). b ++ text (f x)) so_far
    ∙ append_assoc old (flat_map text (map f (take i xs))) (text (f x))
    ∙ ap (λ (b : List ℕ). old ++ b) (sym (ap (flat_map text) (mapped_more f xs i x l e) ∙ flat_last text (map f (take i xs)) (f x)))

-- all of them
pub all_taken : {X : Type 0} (xs : List X) (n : ℕ) → length xs ≤ n → take n xs ≡ xs
all_taken [] zero l = refl
all_taken [] (suc n) l = refl
all_taken (x ∷ xs) zero l = absurd (omega (arith, l))
all_taken (x ∷ xs) (suc n) l = ap (λ zs. x ∷ zs) (all_taken xs n (omega (arith, l)))
