-- Lists: items beside later ones, and rising lists of numbers.
use Rattle.std.specs.Prelude.{if◌then◌else◌}
use Rattle.std.specs.List.{All}
use Rattle.std.proofs.Common.{◌≡◌, ℕ, zero, suc, ◌+◌, ◌<◌, ◌≤◌, List, [], ◌∷◌, ◌++◌, refl, sym, ap, ◌∙◌, arith, ◌==◌, inl, inr}
use Rattle.std.proofs.lemmas.Bool.{cases_order}
use Rattle.std.proofs.lemmas.Bool.Decides.{nat_tests}
use Rattle.std.proofs.lemmas.List.Elements.{All-nil, All-cons}
use Rattle.sto_serializability.proofs.Chains.{Every}

pub all_of : {X : Type 0} (P : X → Type 0) (xs : List X) → Every P xs → All P xs
all_of P [] h = All-nil P
all_of P (x ∷ xs) h = All-cons P x xs h.0 (all_of P xs h.1)

pub every_weaker : {X : Type 0} (P Q : X → Type 0) → ((x : X) → P x → Q x) → (xs : List X) → Every P xs → Every Q xs
every_weaker P Q f [] h = tt
every_weaker P Q f (x ∷ xs) h = (f x h.0, every_weaker P Q f xs h.1)

pub every_both : {X : Type 0} (P Q R : X → Type 0) → ((x : X) → P x → Q x → R x) → (xs : List X) → Every P xs → Every Q xs → Every R xs
every_both P Q R f [] h k = tt
every_both P Q R f (x ∷ xs) h k = (f x h.0 k.0, every_both P Q R f xs h.1 k.1)

pub every_append : {X : Type 0} (P : X → Type 0) (xs ys : List X) → Every P xs → Every P ys → Every P (xs ++ ys)
every_append P [] ys h k = k
every_append P (x ∷ xs) ys h k = (h.0, every_append P xs ys h.1 k)

-- each item beside each later one
abbrev pub Later : {X : Type 0} → (X → X → Type 0) → List X → Type 0
Later C [] = Unit {0}
Later C (x ∷ xs) = Every (C x) xs × Later C xs

pub later_append : {X : Type 0} (C : X → X → Type 0) (xs ys : List X) → Later C xs → Later C ys → Every (λ x. Every (C x) ys) xs → Later C (xs ++ ys)
later_append C [] ys h k b = k
later_append C (x ∷ xs) ys h k b = (every_append (C x) xs ys h.0 b.0, later_append C xs ys h.1 k b.1)

-- what is true of each item beside each later one, both ways, is true of all pairs
pub all_pairs : {X : Type 0} (C : X → X → Type 0) → ((x : X) → C x x) → (xs : List X) → Later (λ x y. C x y × C y x) xs → Every (λ x. Every (C x) xs) xs
all_pairs C own [] h = tt
all_pairs C own (x ∷ xs) h = (
  (own x, every_weaker (λ y. C x y × C y x) (C x) (λ y k. k.0) xs h.0),
  every_both (λ y. C x y × C y x) (λ y. Every (C y) xs) (λ y. C y x × Every (C y) xs) (λ y k l. (k.1, l)) xs h.0 (all_pairs C own xs h.1),
)

-- 1 where the number y is x
abbrev pub hit : ℕ → ℕ → ℕ
hit x y = if y == x then 1 else 0

-- how often a number stands in a list
abbrev pub occurrences : ℕ → List ℕ → ℕ
occurrences x [] = 0
occurrences x (y ∷ ys) = hit x y + occurrences x ys

abbrev pub Rises : List ℕ → Type 0
Rises xs = Later (λ x y. x ≤ y) xs

here_once : (x : ℕ) → hit x x ≡ 1
here_once x = grind (arith, nat_tests)

not_here : (x y : ℕ) → x < y → hit x y ≡ 0
not_here x y l = grind (arith, nat_tests)

none_below : (x y : ℕ) (ys : List ℕ) → x < y → Every (λ z. y ≤ z) ys → occurrences x ys ≡ 0
none_below x y [] l h = refl
none_below x y (z ∷ ys) l h = let a = not_here x z (let k = h.0 in omega (arith, l, k)) in let b = none_below x y ys l h.1 in omega (arith, a, b)

same_first : (x y : ℕ) (xs ys : List ℕ) → Rises (x ∷ xs) → Rises (y ∷ ys) → ((z : ℕ) → occurrences z (x ∷ xs) ≡ occurrences z (y ∷ ys)) → x ≡ y
same_first x y xs ys h k e = elim (cases_order x y) [
  | inl same ↦ same
  | inr (inl l) ↦ absurd (let a = e x in let b = here_once x in let c = not_here x y l in let d = none_below x y ys l k.0 in omega (arith, a, b, c, d))
  | inr (inr l) ↦ absurd (let a = e y in let b = here_once y in let c = not_here y x l in let d = none_below y x xs l h.0 in omega (arith, a, b, c, d))
]

-- two rising lists with the same numbers are the same
pub same_rising : (xs ys : List ℕ) → Rises xs → Rises ys → ((z : ℕ) → occurrences z xs ≡ occurrences z ys) → xs ≡ ys
same_rising [] [] h k e = refl
same_rising [] (y ∷ ys) h k e = absurd (let a = e y in let b = here_once y in omega (arith, a, b))
same_rising (x ∷ xs) [] h k e = absurd (let a = e x in let b = here_once x in omega (arith, a, b))
same_rising (x ∷ xs) (y ∷ ys) h k e =
    let first : x ≡ y = same_first x y xs ys h k e in
    ap (λ (z : ℕ). z ∷ xs) first
    ∙ ap (λ (zs : List ℕ). y ∷ zs)
    (same_rising xs ys h.1 k.1 (λ z. (let a = e z in let b = ap (λ (u : ℕ). hit z u) first in omega (arith, a, b))))
