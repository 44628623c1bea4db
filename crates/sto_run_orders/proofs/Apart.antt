-- Items that are all different, in another order.
use Rattle.std.specs.List.{swap}
use Rattle.std.specs.List.Sorted.{IsPermutation}
use Rattle.std.proofs.Common.{◌≡◌, ◌⊎◌, ◌<◌, ℕ, List, length, get_or, refl, sym, ap, ◌∙◌, arith, inl, inr}
use Rattle.std.proofs.lemmas.Bool.{cases_eq}
use Rattle.std.proofs.lemmas.List.Edits.{swapped_from_swap, length-swap}
use Rattle.std.proofs.lemmas.List.Sorted.{IsPermutation-keeps}

abbrev pub AreDifferent : {X : Type 0} → List X → Type 0
AreDifferent {X} xs = (i j : ℕ) (d : X) → i < length xs → j < length xs → get_or xs i d ≡ get_or xs j d → i ≡ j

-- from where an item came, when two places were exchanged
record CameFrom {X : Type 0} (xs : List X) (a b i : ℕ) (d : X) : Type 0 where
  place : ℕ
  within : place < length xs
  same : get_or (swap xs a b) i d ≡ get_or xs place d
  how : ((i ≡ a) × (place ≡ b)) ⊎ (((i ≡ b) × (place ≡ a)) ⊎ (((i ≡ a) → ⊥) × ((i ≡ b) → ⊥) × (place ≡ i)))

came_from : {X : Type 0} (xs : List X) (a b i : ℕ) (d : X) → a < length xs → b < length xs → i < length (swap xs a b) → CameFrom xs a b i d
came_from {X} xs a b i d in_a in_b in_i = by (cases_eq i a) (cases_eq i b)
  where
    moved : (get_or (swap xs a b) a d ≡ get_or xs b d) × (get_or (swap xs a b) b d ≡ get_or xs a d) × ((m : ℕ) → (m ≡ a → ⊥) → (m ≡ b → ⊥) → get_or (swap xs a b) m d ≡ get_or xs m d)
    moved = swapped_from_swap xs (swap xs a b) a b d in_a in_b refl

    by : (i ≡ a) ⊎ (i ≡ a → ⊥) → (i ≡ b) ⊎ (i ≡ b → ⊥) → CameFrom xs a b i d
    by (inl e) second = record { place = b; within = in_b; same = ap (λ (k : ℕ). get_or (swap xs a b) k d) e ∙ moved.0; how = inl (e, refl) }
    by (inr n) (inl e) = record { place = a; within = in_a; same = ap (λ (k : ℕ). get_or (swap xs a b) k d) e ∙ moved.1; how = inr (inl (e, refl)) }
    by (inr n) (inr m) = record { place = i; within = omega (arith, in_i, length-swap xs a b); same = moved.2 i n m; how = inr (inr (n, m, refl)) }

same_place : (a b i j p q : ℕ) → p ≡ q
    → ((i ≡ a) × (p ≡ b)) ⊎ (((i ≡ b) × (p ≡ a)) ⊎ (((i ≡ a) → ⊥) × ((i ≡ b) → ⊥) × (p ≡ i)))
    → ((j ≡ a) × (q ≡ b)) ⊎ (((j ≡ b) × (q ≡ a)) ⊎ (((j ≡ a) → ⊥) × ((j ≡ b) → ⊥) × (q ≡ j))) → i ≡ j
same_place a b i j p q e (inl x) (inl y) = x.0 ∙ sym y.0
same_place a b i j p q e (inl x) (inr (inl y)) = x.0 ∙ sym (sym x.1 ∙ e ∙ y.1) ∙ sym y.0
same_place a b i j p q e (inl x) (inr (inr y)) = absurd (y.1 (sym (sym x.1 ∙ e ∙ y.2)))
same_place a b i j p q e (inr (inl x)) (inl y) = x.0 ∙ sym (sym x.1 ∙ e ∙ y.1) ∙ sym y.0
same_place a b i j p q e (inr (inl x)) (inr (inl y)) = x.0 ∙ sym y.0
same_place a b i j p q e (inr (inl x)) (inr (inr y)) = absurd (y.0 (sym (sym x.1 ∙ e ∙ y.2)))
same_place a b i j p q e (inr (inr x)) (inl y) = absurd (x.1 (sym x.2 ∙ e ∙ y.1))
same_place a b i j p q e (inr (inr x)) (inr (inl y)) = absurd (x.0 (sym x.2 ∙ e ∙ y.1))
same_place a b i j p q e (inr (inr x)) (inr (inr y)) = sym x.2 ∙ e ∙ y.2

exchanged : {X : Type 0} (xs : List X) (a b : ℕ) → a < length xs → b < length xs → AreDifferent xs → AreDifferent (swap xs a b)
exchanged xs a b in_a in_b apart i j d in_i in_j e =
    let x = came_from xs a b i d in_a in_b in_i in
    let y = came_from xs a b j d in_a in_b in_j in
    same_place a b i j x.place y.place (apart x.place y.place d x.within y.within (sym x.same ∙ e ∙ y.same)) x.how y.how

pub different_in_order : {X : Type 0} (xs ys : List X) → IsPermutation xs ys → AreDifferent xs → AreDifferent ys
different_in_order xs ys moved apart = IsPermutation-keeps xs AreDifferent apart exchanged ys moved
