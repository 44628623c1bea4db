-- One object more, of a kind that is not before the last one, keeps objects in the order of their kinds.
use Rattle.std.specs.Prelude.{sum_by, max}
use Rattle.std.proofs.Common.{◌≡◌, ◌<◌, ◌≤◌, ◌+◌, ◌^◌, ℕ, zero, suc, Bool, true, false, nat_eq, if◌then◌else◌, List, [], ◌∷◌, ◌++◌, refl, sym, ap, ◌∙◌, arith, eq-eqb, ne_eqb, true≢false, append-nil, inl, inr}
use Rattle.std.proofs.Math.Nat.{le-max_left, le-max_right, max-eq_left, max-eq_right}
use Rattle.std.proofs.lemmas.Bool.{cases_lt}
use Rattle.std.proofs.lemmas.Bool.Decides.{nat_tests}
use Rattle.std.proofs.lemmas.List.{append_assoc}
use Rattle.std.proofs.lemmas.List.Sums.{sum_by-cons}
use Rattle.sto_model.specs.declared.shape.Shape.{Shape}
use Rattle.sto_model.specs.declared.shape.Shape.TheVariants.{Single, Counter, Array, Hash, Tree, Vector}
use Rattle.sto_model.specs.Sizes.{part_count, rank}
use Rattle.sto_store.specs.Stores.{of_kind, IsFit, AreFit, AreInOrder}
use Rattle.sto_store.proofs.Built.{kind_append}
use Rattle.sto_shared_store.specs.Plans.{IsPlan, last_rank}

by_test : {P : Type 0} (b : Bool) → (b ≡ true → P) → (b ≡ false → P) → P
by_test true f g = f refl
by_test false f g = g refl

below : (k n : ℕ) → k ≤ n → (n ≡ k → ⊥) → k < n
below k n l away = elim (cases_lt k n) [ inl h ↦ h | inr h ↦ absurd (away (omega (arith, l, h))) ]

-- the shapes of so many kinds, from the kind k on
abbrev kinds : ℕ → ℕ → List Shape → List Shape
kinds k zero shapes = []
kinds k (suc n) shapes = of_kind k shapes ++ kinds (suc k) n shapes

-- none is of a later kind than the last
none_above : (k : ℕ) (shapes : List Shape) → last_rank shapes < k → of_kind k shapes ≡ []
none_above k [] l = refl
none_above k (s ∷ ss) l =
    let here = le-max_left (rank s) (last_rank ss) in
    let rest = le-max_right (rank s) (last_rank ss) in
    let away : nat_eq (rank s) k ≡ false = ne_eqb (rank s) k (λ e. omega (arith, here, l, e)) in
    rw away (none_above k ss (omega (arith, rest, l)))

all_above : (k n : ℕ) (shapes : List Shape) → last_rank shapes < k → kinds k n shapes ≡ []
all_above k zero shapes l = refl
all_above k (suc n) shapes l =
    ap (λ (t : List Shape). t ++ kinds (suc k) n shapes) (none_above k shapes l) ∙ all_above (suc k) n shapes (omega (arith, l))

module _ (shapes : List Shape) (s : Shape) where
  -- one more of this kind
  one_kind : (k : ℕ) → rank s ≡ k → of_kind k (shapes ++ s ∷ []) ≡ of_kind k shapes ++ s ∷ []
  one_kind k e = kind_append k shapes (s ∷ []) ∙ ap (λ (b : Bool). of_kind k shapes ++ (if b then s ∷ [] else [])) (let t : nat_eq (rank s) k ≡ true = eq-eqb (rank s) k e in t)

  other_kind : (k : ℕ) → (rank s ≡ k → ⊥) → of_kind k (shapes ++ s ∷ []) ≡ of_kind k shapes
  other_kind k e =
      kind_append k shapes (s ∷ []) ∙ ap (λ (b : Bool). of_kind k shapes ++ (if b then s ∷ [] else [])) (ne_eqb (rank s) k e) ∙ append-nil (of_kind k shapes)

  later_kinds : (k n : ℕ) → rank s < k → kinds k n (shapes ++ s ∷ []) ≡ kinds k n shapes
  later_kinds k zero l = refl
  later_kinds k (suc n) l =
      ap (λ (t : List Shape). t ++ kinds (suc k) n (shapes ++ s ∷ [])) (other_kind k (λ e. omega (arith, l, e)))
      ∙ ap (λ (t : List Shape). of_kind k shapes ++ t) (later_kinds (suc k) n (omega (arith, l)))

  module _ (last : last_rank shapes ≤ rank s) where
    next_kinds : (k n : ℕ) → k ≤ rank s → rank s < k + n → kinds k n (shapes ++ s ∷ []) ≡ kinds k n shapes ++ s ∷ []
    next_kinds k zero l h = absurd (omega (arith, l, h))
    next_kinds k (suc n) l h = by_test (nat_eq (rank s) k)
        (λ e.
        let is : rank s ≡ k = grind (arith, nat_tests, e) in
        let none : kinds (suc k) n shapes ≡ [] = all_above (suc k) n shapes (omega (arith, last, is)) in
        ap (λ (t : List Shape). t ++ kinds (suc k) n (shapes ++ s ∷ [])) (one_kind k is)
        ∙ ap (λ (t : List Shape). (of_kind k shapes ++ s ∷ []) ++ t) (later_kinds (suc k) n (omega (arith, is)) ∙ none)
        ∙ append-nil (of_kind k shapes ++ s ∷ [])
        ∙ ap (λ (t : List Shape). t ++ s ∷ []) (sym (append-nil (of_kind k shapes)) ∙ ap (λ (t : List Shape). of_kind k shapes ++ t) (sym none)))
        (λ e.
        let away : rank s ≡ k → ⊥ = λ is. true≢false (sym (eq-eqb (rank s) k is) ∙ e) in
        ap (λ (t : List Shape). t ++ kinds (suc k) n (shapes ++ s ∷ [])) (other_kind k away)
        ∙ ap (λ (t : List Shape). of_kind k shapes ++ t) (next_kinds (suc k) n (let a : k < rank s = below k (rank s) l away in omega (arith, a)) (omega (arith, h)))
        ∙ sym (append_assoc (of_kind k shapes) (kinds (suc k) n shapes) (s ∷ [])))

low : (s : Shape) → rank s < 6
low (Single v) = omega arith
low (Counter v) = omega arith
low (Array len v) = omega arith
low (Hash buckets places) = omega arith
low (Tree leaves) = omega arith
low (Vector capacity) = omega arith

-- the six kinds
six : (shapes : List Shape) → kinds 0 6 shapes ≡ of_kind 0 shapes ++ (of_kind 1 shapes ++ (of_kind 2 shapes ++ (of_kind 3 shapes ++ (of_kind 4 shapes ++ of_kind 5 shapes))))
six shapes =
    ap (λ (t : List Shape). of_kind 0 shapes ++ (of_kind 1 shapes ++ (of_kind 2 shapes ++ (of_kind 3 shapes ++ (of_kind 4 shapes ++ t))))) (append-nil (of_kind 5 shapes))

in_order_more : (shapes : List Shape) (s : Shape) → AreInOrder shapes → last_rank shapes ≤ rank s → AreInOrder (shapes ++ s ∷ [])
in_order_more shapes s order last =
    ap (λ (t : List Shape). t ++ s ∷ []) (order ∙ sym (six shapes))
    ∙ sym (next_kinds shapes s last 0 6 (omega arith) (low s))
    ∙ six (shapes ++ s ∷ [])

fit_more : (shapes : List Shape) (s : Shape) → AreFit shapes → IsFit s → AreFit (shapes ++ s ∷ [])
fit_more [] s h k = (k, tt)
fit_more (x ∷ xs) s h k = (h.0, fit_more xs s h.1 k)

pub parts_more : (shapes : List Shape) (s : Shape) → sum_by part_count (shapes ++ s ∷ []) ≡ sum_by part_count shapes + part_count s
parts_more [] s = (let a = sum_by-cons part_count s [] in omega (arith, a))
parts_more (x ∷ xs) s =
    let a = sum_by-cons part_count x (xs ++ s ∷ []) in let b = sum_by-cons part_count x xs in let k = parts_more xs s in omega (arith, a, b, k)

pub plan_more : (shapes : List Shape) (s : Shape) → IsPlan shapes → last_rank shapes ≤ rank s → IsFit s → sum_by part_count shapes + part_count s < 2 ^ 32
    → IsPlan (shapes ++ s ∷ [])
plan_more shapes s h last fit few = record {
  order = in_order_more shapes s h.order last;
  fit = fit_more shapes s h.fit fit;
  parts = (let e = parts_more shapes s in omega (arith, e, few));
}

pub last_more : (shapes : List Shape) (s : Shape) → last_rank shapes ≤ rank s → last_rank (shapes ++ s ∷ []) ≡ rank s
last_more [] s l = max-eq_left (omega arith)
last_more (x ∷ xs) s l =
    let here = le-max_left (rank x) (last_rank xs) in
    let rest = le-max_right (rank x) (last_rank xs) in
    ap (max (rank x)) (last_more xs s (omega (arith, rest, l))) ∙ max-eq_right (omega (arith, here, l))
